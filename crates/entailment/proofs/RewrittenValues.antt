-- An expression keeps its value where some of its parts are made another expression of the same value.
use Rattle.std.proofs.Common.{◌≡◌, List, ◌∷◌, refl, sym, ap₂}
use Rattle.c_values.specs.Layout.{Layout}
use Rattle.expression_lang.specs.Expression.{Exp, Var, Load, Read}
use Rattle.expression_lang.specs.Evaluation.{Env, State, value}
use Rattle.expression_lang.specs.Signature.{values_of}
use Rattle.ac_expr.specs.Heads.{children}
use Rattle.ac_expr.proofs.HeadsAgree.{LooksAlike, heads_agree}
use Rattle.entailment.specs.Rewritten.{IsRewritten, AreRewritten, kept, made, inside, none, each}

module _ (l : Layout) (env : Env) (s : State) where
  looks_alike : (e : Exp) → LooksAlike l env env s s e
  looks_alike (Var x) = refl
  looks_alike (Load t p path) = refl
  looks_alike (Read t p path) = refl
  looks_alike e = tt

  module _ (a b : Exp) (same : value l env s a ≡ value l env s b) where
    mutual
      pub rewritten_value : (e e' : Exp) → IsRewritten a b e e' → value l env s e' ≡ value l env s e
      rewritten_value _ _ kept = refl
      rewritten_value _ _ made = sym same
      rewritten_value e e' (inside h k) = heads_agree l env env s s refl refl e e' h (looks_alike e) (rewritten_values (children e) (children e') k)

      rewritten_values : (es es' : List Exp) → AreRewritten a b es es' → values_of l env s es' ≡ values_of l env s es
      rewritten_values _ _ none = refl
      rewritten_values _ _ (each {e} {e'} {es} {es'} h k) = ap₂ (λ v vs. v ∷ vs) (rewritten_value e e' h) (rewritten_values es es' k)
