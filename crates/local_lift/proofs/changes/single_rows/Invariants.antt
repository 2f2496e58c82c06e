-- The rows so far, before the rows of what is left, are the rows.
use Rattle.std.proofs.Common.{List, ◌++◌, length}
use Rattle.c_values.specs.Name.{same_name}
use Rattle.local_lift.specs.declared.rows.Row.{Row}
use Rattle.local_lift.specs.Live.{none}
use Rattle.local_lift.specs.CodeRows.{MatrixAnd}
use Rattle.local_lift.proofs.changes.single_rows.Given as goal

abbrev pub invariant-along : goal.invariant-along
invariant-along l = (others : List Row) → MatrixAnd l.locals same_name none l.rest others → MatrixAnd l.locals same_name none l.locals (l.rows.items ++ others)

abbrev pub decreases-along : goal.decreases-along
decreases-along l = length l.rest
