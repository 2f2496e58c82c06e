-- One front of an expression more.
use Rattle.std.proofs.Common.{◌≡◌, List, [], ◌∷◌, ◌++◌, refl, ap}
use Rattle.heap_lift.specs.declared.exp_fronts.ExpFront as F
use Rattle.heap_lift.specs.Lifted.{LiftedExp}
use Rattle.heap_lift.specs.CodeExps.{with_front, with_fronts}

pub with_fronts_push : (xs : List F.ExpFront) (x : F.ExpFront) (last : LiftedExp) → with_fronts (xs ++ x ∷ []) last ≡ with_fronts xs (with_front x last)
with_fronts_push [] x last = refl
with_fronts_push (y ∷ ys) x last = ap (λ e. with_front y e) (with_fronts_push ys x last)
