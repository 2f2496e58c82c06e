-- The rows so far.
use Rattle.std.proofs.Common.{◌≡◌, Bool, List}
use Rattle.c_values.specs.Name.{Name}
use Rattle.expression_lang.specs.declared.signatures.Binder as B
use Rattle.local_lift.specs.CodeNames.{names}
use Rattle.local_lift.specs.CodeRows.{marks, Moves, Matrix, spreading}
use Rattle.local_lift.proofs.changes.all_spread.Given as goal

abbrev pub invariant-loop-row : goal.invariant-loop-row
invariant-loop-row l = (bs : List B.Binder) (leads : Name → Name → Bool) (g : Name → Bool) → Matrix bs leads bs l.reached → l.own.flags.items ≡ marks g bs → Moves bs (spreading (names bs) leads g) l.yielded l.after.items
