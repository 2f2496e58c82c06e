-- The rows so far.
use Rattle.std.proofs.Common.{◌≡◌, Bool}
use Rattle.c_values.specs.Name.{Name}
use Rattle.local_lift.specs.CodeNames.{names}
use Rattle.local_lift.specs.CodeRows.{marks, Moves, assigning}
use Rattle.local_lift.proofs.changes.all_assigned.Given as goal

abbrev pub invariant-loop-row : goal.invariant-loop-row
invariant-loop-row l = (g : Name → Bool) → l.named.flags.items ≡ marks g l.locals → Moves l.locals (assigning l.name (names l.locals) g) l.yielded l.after.items
