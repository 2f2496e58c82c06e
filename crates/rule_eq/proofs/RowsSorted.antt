-- The first of a row of well-sorted expressions, and those behind it.
use Rattle.std.proofs.Common.{◌≡◌, List, ◌∷◌, subst}
use Rattle.expression_lang.specs.Expression.{Exp}
use Rattle.expression_lang.specs.Sort.{Scope}
use Rattle.ac_expr.specs.CodeApart.{IsSomeSorted}
use Rattle.rule_eq.specs.CodeExps.{AreSomewhereSorted}

module _ (g : Scope) (a : Exp) (as' es : List Exp) (first : es ≡ a ∷ as') (all : AreSomewhereSorted g es) where
  pub first_sorted : IsSomeSorted g a
  first_sorted = (subst (λ fs. AreSomewhereSorted g fs) first all).0

  pub rest_sorted : AreSomewhereSorted g as'
  rest_sorted = (subst (λ fs. AreSomewhereSorted g fs) first all).1
