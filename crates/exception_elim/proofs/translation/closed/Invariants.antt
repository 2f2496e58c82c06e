-- The fronts that are left, around what is made, are the whole.
use Rattle.std.proofs.Common.{◌≡◌, vec_len}
use Rattle.exception_elim.specs.CodeDone.{done_of}
use Rattle.exception_elim.specs.CodeFront.{with_fronts}
use Rattle.exception_elim.proofs.translation.closed.Given as goal

abbrev pub invariant-back : goal.invariant-back
invariant-back l = with_fronts l.fronts.items (done_of l.whole.value) ≡ with_fronts l.initial.fronts.items (done_of l.initial.whole.value)

abbrev pub decreases-back : goal.decreases-back
decreases-back l = vec_len l.fronts
