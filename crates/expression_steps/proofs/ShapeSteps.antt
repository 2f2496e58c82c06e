-- The first step in an expression is one there, or else one in a part.
use Rattle.std.proofs.Common.{◌≡◌, List, Option, Some, None, refl, ap, ◌∙◌}
use Rattle.expression_lang.specs.Expression.{Exp, Var, WordLit, NumberLit, TruthLit, Between, Sel, Upd}
use Rattle.expression_lang.specs.CodeShape.{shape_of}
use Rattle.ac_expr.specs.Fact.{Fact}
use Rattle.expression_steps.specs.Rewritten.{Choice, or_else, first_step}
use Rattle.expression_steps.specs.CodeExpSteps.{shape_step}

or_none : {A : Type 0} (o : Option A) → o ≡ or_else o None
or_none None = refl
or_none (Some a) = refl

by_shape : (f : Choice) (fs : List Fact) (e : Exp) → first_step f fs e ≡ or_else (f fs e) (shape_step f fs (shape_of e))
by_shape f fs (Var x) = or_none (f fs (Var x))
by_shape f fs (WordLit w) = or_none (f fs (WordLit w))
by_shape f fs (NumberLit n) = or_none (f fs (NumberLit n))
by_shape f fs (TruthLit b) = or_none (f fs (TruthLit b))
by_shape f fs (Between low a high) = refl
by_shape f fs (Sel e path) = or_none (f fs (Sel e path))
by_shape f fs (Upd e path v) = or_none (f fs (Upd e path v))
by_shape _ _ _ = refl

-- a step there
pub step_itself : (f : Choice) (fs : List Fact) (e new : Exp) → f fs e ≡ Some new → first_step f fs e ≡ Some new
step_itself f fs e new h = by_shape f fs e ∙ ap (λ o. or_else o (shape_step f fs (shape_of e))) h

-- where there is none, one in a part
pub step_shape : (f : Choice) (fs : List Fact) (e : Exp) → f fs e ≡ None → first_step f fs e ≡ shape_step f fs (shape_of e)
step_shape f fs e h = by_shape f fs e ∙ ap (λ o. or_else o (shape_step f fs (shape_of e))) h
