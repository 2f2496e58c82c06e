-- What is made so far, and what is left, are the row.
use Rattle.std.proofs.Common.{◌≡◌, ◌++◌, length}
use Rattle.local_lift.specs.CodeRows.{row_without}
use Rattle.local_lift.proofs.rows.without.Given as goal

abbrev pub invariant-along : goal.invariant-along
invariant-along l = l.flags.items ++ row_without l.name l.left l.right ≡ row_without l.name l.locals l.row.flags.items

abbrev pub decreases-along : goal.decreases-along
decreases-along l = length l.left
