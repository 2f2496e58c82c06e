-- Heads and children by shape.
use Rattle.std.proofs.Common.{◌≡◌, refl, sym, ap, ◌∙◌}
use Rattle.expression_lang.specs.Expression.{Exp, Between}
use Rattle.expression_lang.specs.CodeShape.{shape_of, whole}
use Rattle.expression_lang.proofs.ShapeLaws.{whole_shape}
use Rattle.ac_expr.specs.Heads.{children, head}
use Rattle.ac_expr.specs.CodeHeads.{bare, shape_children}

pub head_by_shape : (e : Exp) → shape_of (head e) ≡ bare (shape_of e)
head_by_shape (Between low a high) = refl
head_by_shape _ = refl

pub children_by_shape : (e : Exp) → shape_children (shape_of e) ≡ children e
children_by_shape (Between low a high) = refl
children_by_shape _ = refl

-- two heads are the same where the shapes are but for the parts
pub heads_same : (a b : Exp) → bare (shape_of b) ≡ bare (shape_of a) → head b ≡ head a
heads_same a b e = sym (whole_shape (head b)) ∙ ap whole (head_by_shape b ∙ e ∙ sym (head_by_shape a)) ∙ whole_shape (head a)

pub shapes_same : (a b : Exp) → head b ≡ head a → bare (shape_of b) ≡ bare (shape_of a)
shapes_same a b e = sym (head_by_shape b) ∙ ap shape_of e ∙ head_by_shape a
