-- The fronts that are left, around what is made, are the whole.
use Rattle.std.proofs.Common.{◌≡◌, vec_len}
use Rattle.monad_lang.specs.CodeProgram.{mon_of}
use Rattle.monad_lang.specs.CodeFront.{with_fronts}
use Rattle.value_putting.proofs.programs.closed.Given as goal

abbrev pub invariant-back : goal.invariant-back
invariant-back l = with_fronts l.fronts.items (mon_of l.new.value) ≡ with_fronts l.initial.fronts.items (mon_of l.initial.new.value)

abbrev pub decreases-back : goal.decreases-back
decreases-back l = vec_len l.fronts
