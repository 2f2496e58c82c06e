-- The rows so far.
use Rattle.local_lift.specs.CodeRows.{Moves, removing}
use Rattle.local_lift.proofs.changes.all_removed.Given as goal

abbrev pub invariant-loop-row : goal.invariant-loop-row
invariant-loop-row l = Moves l.locals (removing l.name) l.yielded l.after.items
