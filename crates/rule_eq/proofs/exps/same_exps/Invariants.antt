-- What is left of both is the same where they are.
use Rattle.std.proofs.Common.{◌≡◌, ◌↔◌, length}
use Rattle.rule_parts.specs.CodeExps.{exps_in}
use Rattle.rule_eq.proofs.exps.same_exps.Given as goal

abbrev pub invariant-along : goal.invariant-along
invariant-along l = (exps_in l.others ≡ exps_in l.ones) ↔ (exps_in l.right ≡ exps_in l.left)

abbrev pub decreases-along : goal.decreases-along
decreases-along l = length (exps_in l.ones)
