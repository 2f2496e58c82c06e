-- The name is looked up in what is left of the chain.
use Rattle.std.proofs.Common.{◌≡◌}
use Rattle.ac_expr.specs.CodeChain.{scope_of_facts}
use Rattle.entailment.proofs.site.NamesOfScope.scalar.Given as goal

abbrev pub invariant-links : goal.invariant-links
invariant-links g l = (scope_of_facts l.rest).names l.name ≡ (scope_of_facts l.self.facts.now).names l.name
