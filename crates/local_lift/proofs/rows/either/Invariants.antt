-- What is made so far, and what is left of the two rows, are the row.
use Rattle.std.proofs.Common.{◌≡◌, ◌++◌, length}
use Rattle.local_lift.specs.CodeRows.{either_row}
use Rattle.local_lift.proofs.rows.either.Given as goal

abbrev pub invariant-along : goal.invariant-along
invariant-along l = l.flags.items ++ either_row l.left l.right ≡ either_row l.row.flags.items l.other.flags.items

abbrev pub decreases-along : goal.decreases-along
decreases-along l = length l.left
