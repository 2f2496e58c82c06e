-- What is left has the name where the row has it.
use Rattle.std.proofs.Common.{◌≡◌, length}
use Rattle.local_lift.specs.CodeRows.{row_has}
use Rattle.local_lift.proofs.rows.has.Given as goal

abbrev pub invariant-along : goal.invariant-along
invariant-along l = row_has l.name l.left l.right ≡ row_has l.name l.locals l.row.flags.items

abbrev pub decreases-along : goal.decreases-along
decreases-along l = length l.left
