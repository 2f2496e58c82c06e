-- The rows so far.
use Rattle.std.proofs.Common.{◌≡◌, Bool, List}
use Rattle.c_values.specs.Name.{Name}
use Rattle.expression_lang.specs.declared.signatures.Binder as B
use Rattle.local_lift.specs.CodeRows.{marks, Moves, IsAt, by_way}
use Rattle.local_lift.proofs.changes.all_by_way.Given as goal

abbrev pub invariant-loop-row : goal.invariant-loop-row
invariant-loop-row l = (bs : List B.Binder) (x : Name) (w : Name → Bool) → IsAt l.k bs x → l.way.flags.items ≡ marks w bs → Moves bs (by_way x w) l.yielded l.after.items
