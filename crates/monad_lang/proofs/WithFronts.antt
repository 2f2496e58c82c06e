-- One front more.
use Rattle.std.proofs.Common.{◌≡◌, List, [], ◌∷◌, ◌++◌, refl, ap}
use Rattle.monad_lang.specs.Program.{Mon}
use Rattle.monad_lang.specs.declared.fronts.Front as F
use Rattle.monad_lang.specs.CodeFront.{with_front, with_fronts}

pub with_fronts_push : (xs : List F.Front) (x : F.Front) (last : Mon) → with_fronts (xs ++ x ∷ []) last ≡ with_fronts xs (with_front x last)
with_fronts_push [] x last = refl
with_fronts_push (y ∷ ys) x last = ap (λ m. with_front y m) (with_fronts_push ys x last)
