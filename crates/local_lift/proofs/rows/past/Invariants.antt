-- What is made so far, and what is left of the three rows, are the row.
use Rattle.std.proofs.Common.{◌≡◌, ◌++◌, length}
use Rattle.local_lift.specs.CodeRows.{past_row}
use Rattle.local_lift.proofs.rows.past.Given as goal

abbrev pub invariant-along : goal.invariant-along
invariant-along l = l.flags.items ++ past_row l.left l.right l.cut ≡ past_row l.row.flags.items l.other.flags.items l.assigned.flags.items

abbrev pub decreases-along : goal.decreases-along
decreases-along l = length l.left
