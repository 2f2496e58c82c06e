-- What is left of both is the same where they are.
use Rattle.std.proofs.Common.{◌≡◌, ◌↔◌, length}
use Rattle.ac_expr.specs.CodeHeads.{children_in}
use Rattle.ac_expr.proofs.differences.same_children.Given as goal

abbrev pub invariant-along : goal.invariant-along
invariant-along l = (children_in l.others ≡ children_in l.ones) ↔ (children_in l.right ≡ children_in l.left)

abbrev pub decreases-along : goal.decreases-along
decreases-along l = length (children_in l.ones)
