-- The fronts that are left, around what is made, are the whole.
use Rattle.std.proofs.Common.{◌≡◌, vec_len}
use Rattle.heap_lift.specs.CodeLifted.{lifted_in, with_fronts}
use Rattle.heap_lift.proofs.translation.closed.Given as goal

abbrev pub invariant-back : goal.invariant-back
invariant-back l = with_fronts l.fronts.items (lifted_in l.whole.value) ≡ with_fronts l.initial.fronts.items (lifted_in l.initial.whole.value)

abbrev pub decreases-back : goal.decreases-back
decreases-back l = vec_len l.fronts
