-- The rows so far.
use Rattle.std.proofs.Common.{◌≡◌, Bool, List}
use Rattle.c_values.specs.Name.{Name}
use Rattle.expression_lang.specs.declared.signatures.Binder as B
use Rattle.local_lift.specs.CodeRows.{marks, Moves, adding}
use Rattle.local_lift.proofs.changes.all_added.Given as goal

abbrev pub invariant-loop-row : goal.invariant-loop-row
invariant-loop-row l = (bs : List B.Binder) (g : Name → Bool) → l.named.flags.items ≡ marks g bs → Moves bs (adding g) l.yielded l.after.items
