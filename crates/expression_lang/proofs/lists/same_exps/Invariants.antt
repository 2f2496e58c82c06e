-- What is left of both is the same where they are.
use Rattle.std.proofs.Common.{◌≡◌, ◌↔◌, map, length}
use Rattle.expression_lang.specs.CodeExpression.{exp_of}
use Rattle.expression_lang.proofs.lists.same_exps.Given as goal

abbrev pub invariant-along : goal.invariant-along
invariant-along l = (map exp_of l.left ≡ map exp_of l.right) ↔ (map exp_of l.exps ≡ map exp_of l.others)

abbrev pub decreases-along : goal.decreases-along
decreases-along l = length l.left
