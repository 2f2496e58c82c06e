-- What first sides tell of two expressions.
use Rattle.std.proofs.Common.{◌≡◌, Some, None, sym, ap, ◌∙◌}
use Rattle.expression_lang.specs.Expression.{Exp}
use Rattle.ac_expr.specs.CodeFirstSides.{first_side}

some_same : (x y : Exp) → Some x ≡ Some y → x ≡ y
some_same x y e = cc

-- both go on
pub sides_same : (a b x y : Exp) → Some x ≡ first_side a → Some y ≡ first_side b → a ≡ b → x ≡ y
sides_same a b x y f g e = some_same x y (f ∙ ap first_side e ∙ sym g)

-- one of them ends
pub first_alone : (a b x : Exp) → Some x ≡ first_side a → None ≡ first_side b → a ≡ b → ⊥
first_alone a b x f g e = let clash : Some x ≡ None = f ∙ ap first_side e ∙ sym g in absurd cc

pub second_alone : (a b y : Exp) → None ≡ first_side a → Some y ≡ first_side b → a ≡ b → ⊥
second_alone a b y f g e = let clash : None ≡ Some y = f ∙ ap first_side e ∙ sym g in absurd cc
