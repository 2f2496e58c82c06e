-- One front more.
use Rattle.std.proofs.Common.{◌≡◌, List, [], ◌∷◌, ◌++◌, refl, ap}
use Rattle.expression_lang.specs.Expression.{Exp, Path}
use Rattle.expression_lang.specs.declared.shape.Front as F
use Rattle.expression_lang.specs.declared.shape.PathFront as G
use Rattle.expression_lang.specs.CodeShapeView.{with_front, with_fronts, with_step, with_steps}

pub with_fronts_push : (xs : List F.Front) (x : F.Front) (last : Exp) → with_fronts (xs ++ x ∷ []) last ≡ with_fronts xs (with_front x last)
with_fronts_push [] x last = refl
with_fronts_push (y ∷ ys) x last = ap (λ e. with_front y e) (with_fronts_push ys x last)

pub with_steps_push : (xs : List G.PathFront) (x : G.PathFront) (rest : Path) → with_steps (xs ++ x ∷ []) rest ≡ with_steps xs (with_step x rest)
with_steps_push [] x rest = refl
with_steps_push (y ∷ ys) x rest = ap (λ p. with_step y p) (with_steps_push ys x rest)
