-- What is left of the chain has the layout of the whole.
use Rattle.std.proofs.Common.{◌≡◌}
use Rattle.ac_expr.specs.CodeChain.{scope_of_facts}
use Rattle.entailment.proofs.site.layout_of.Given as goal

abbrev pub invariant-links : goal.invariant-links
invariant-links g l = (scope_of_facts l.rest).layout ≡ (scope_of_facts l.facts).layout
