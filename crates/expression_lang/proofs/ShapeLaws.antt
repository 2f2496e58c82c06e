-- A shape has all that there is of an expression.
use Rattle.std.proofs.Common.{◌≡◌, refl}
use Rattle.expression_lang.specs.Expression.{Exp, Between}
use Rattle.expression_lang.specs.CodeShape.{shape_of, whole}

pub whole_shape : (e : Exp) → whole (shape_of e) ≡ e
whole_shape (Between low a high) = refl
whole_shape _ = refl
