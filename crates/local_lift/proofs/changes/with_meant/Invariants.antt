-- What is left, from what is made so far, is the row.
use Rattle.std.proofs.Common.{◌≡◌, length}
use Rattle.local_lift.specs.CodeRows.{with_meant}
use Rattle.local_lift.proofs.changes.with_meant.Given as goal

abbrev pub invariant-along : goal.invariant-along
invariant-along l = with_meant l.left l.right l.all.flags.items ≡ with_meant l.row.flags.items l.reached l.row.flags.items

abbrev pub decreases-along : goal.decreases-along
decreases-along l = length l.left
