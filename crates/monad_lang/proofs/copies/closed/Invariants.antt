-- The fronts that are left, around what is built, are the whole.
use Rattle.std.proofs.Common.{◌≡◌, vec_len}
use Rattle.monad_lang.specs.CodeProgram.{mon_of}
use Rattle.monad_lang.specs.CodeFront.{with_fronts}
use Rattle.monad_lang.proofs.copies.closed.Given as goal

abbrev pub invariant-back : goal.invariant-back
invariant-back l = with_fronts l.fronts.items (mon_of l.copy.value) ≡ with_fronts l.initial.fronts.items (mon_of l.initial.copy.value)

abbrev pub decreases-back : goal.decreases-back
decreases-back l = vec_len l.fronts
