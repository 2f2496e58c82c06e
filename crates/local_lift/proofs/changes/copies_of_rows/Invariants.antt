-- Copies of what is left after the copies so far are copies of all.
use Rattle.std.proofs.Common.{◌≡◌, ◌++◌, length}
use Rattle.local_lift.specs.CodeRows.{flags_of}
use Rattle.local_lift.proofs.changes.copies_of_rows.Given as goal

abbrev pub invariant-along : goal.invariant-along
invariant-along l = flags_of l.copies.items ++ flags_of l.rest ≡ flags_of l.rows

abbrev pub decreases-along : goal.decreases-along
decreases-along l = length l.rest
