-- What is left of the chain has the globals of the whole.
use Rattle.std.proofs.Common.{◌≡◌}
use Rattle.ac_expr.specs.CodeChain.{scope_of_facts}
use Rattle.entailment.proofs.site.globals_of.Given as goal

abbrev pub invariant-links : goal.invariant-links
invariant-links g l = (scope_of_facts l.rest).globals ≡ (scope_of_facts l.facts).globals
