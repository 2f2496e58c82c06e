-- Those that are left are the same where all are.
use Rattle.std.proofs.Common.{◌≡◌, length, map}
use Rattle.expression_lang.specs.CodeSort.{scalar_of}
use Rattle.expression_lang.specs.Sorted as S
use Rattle.given_scalars.proofs.sorted.same_scalars.Given as goal

abbrev pub invariant-along : goal.invariant-along
invariant-along l = S.same_scalars (map scalar_of l.left) (map scalar_of l.right) ≡ S.same_scalars (map scalar_of l.a) (map scalar_of l.b)

abbrev pub decreases-along : goal.decreases-along
decreases-along l = length l.left
