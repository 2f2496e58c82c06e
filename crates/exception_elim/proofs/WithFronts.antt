-- One front more.
use Rattle.std.proofs.Common.{◌≡◌, List, [], ◌∷◌, ◌++◌, refl, ap}
use Rattle.exception_elim.specs.declared.fronts.Front as F
use Rattle.exception_elim.specs.CodeDone.{Done}
use Rattle.exception_elim.specs.CodeFront.{with_front, with_fronts}

pub with_fronts_push : (xs : List F.Front) (x : F.Front) (last : Done) → with_fronts (xs ++ x ∷ []) last ≡ with_fronts xs (with_front x last)
with_fronts_push [] x last = refl
with_fronts_push (y ∷ ys) x last = ap (λ c. with_front y c) (with_fronts_push ys x last)
