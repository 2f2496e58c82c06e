-- An expression that is made anew from its parts has in one state the value that the expression has in another, where each change of
-- what is made keeps that.
use Rattle.std.proofs.Common.{◌≡◌, List, [], ◌∷◌, refl, ap₂}
use Rattle.c_values.specs.Layout.{Layout}
use Rattle.expression_lang.specs.Expression.{Exp}
use Rattle.expression_lang.specs.Evaluation.{Env, State, value}
use Rattle.expression_lang.specs.Signature.{values_of}
use Rattle.ac_expr.specs.Heads.{head, children}
use Rattle.assertion_walks.specs.Rebuilt.{IsRebuilt, AreRebuilt, rebuilt, none, each}

-- each of them is as the predicate says
abbrev pub AllAre : (Exp → Type 0) → List Exp → Type 0
AllAre P [] = Unit {0}
AllAre P (e ∷ es) = P e × AllAre P es

-- where the predicate holds of an expression and of its parts
module _ (l : Layout) (env : Env) (s s' : State) (changes : Exp → Exp → Type 0) (P : Exp → Type 0) (parts : (e : Exp) → P e → AllAre P (children e)) where
  -- a change of what is made gives what has in the one state the value that the expression has in the other
  abbrev pub IsKept : Exp → Exp → Type 0
  IsKept e made =
      P e → head made ≡ head e → values_of l env s (children made) ≡ values_of l env s' (children e) → (e' : Exp) → changes made e' →
      value l env s e' ≡ value l env s' e

  module _ (keeps : (e made : Exp) → IsKept e made) where
    mutual
      pub rebuilt_value : (e e' : Exp) → IsRebuilt changes e e' → P e → value l env s e' ≡ value l env s' e
      rebuilt_value e e' (rebuilt {made} h k c) p = keeps e made p h (rebuilt_values (children e) (children made) k (parts e p)) e' c

      rebuilt_values : (es es' : List Exp) → AreRebuilt changes es es' → AllAre P es → values_of l env s es' ≡ values_of l env s' es
      rebuilt_values _ _ none p = refl
      rebuilt_values _ _ (each {e} {e'} {es} {es'} h k) p = ap₂ (λ v vs. v ∷ vs) (rebuilt_value e e' h p.0) (rebuilt_values es es' k p.1)
