-- What is left of the second is what is left of the first without one, where all is.
use Rattle.std.proofs.Common.{◌≡◌, ◌↔◌, map, length}
use Rattle.expression_lang.specs.CodeExpression.{exp_of}
use Rattle.rule_eq.specs.CodeTaken.{without}
use Rattle.rule_eq.proofs.taken.same_exps_but.Given as goal

abbrev pub invariant-along : goal.invariant-along
invariant-along l =
    (map exp_of l.right ≡ without l.count (map exp_of l.left)) ↔ (map exp_of l.others ≡ without l.position (map exp_of l.exps))

abbrev pub decreases-along : goal.decreases-along
decreases-along l = length l.left
