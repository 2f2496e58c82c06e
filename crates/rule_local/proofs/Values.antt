-- The values of names that are held.
use Rattle.std.proofs.Common.{◌≡◌, Bool, true, false, cond, List, [], ◌∷◌, refl, ap, ap₂}
use Rattle.std.proofs.lemmas.Bool.{or_parts, cond-false}
use Rattle.c_values.specs.Name.{Name, same_name, with_name, is_among}
use Rattle.c_values.specs.Value.{Value}
use Rattle.c_values.specs.Layout.{Layout}
use Rattle.c_values.proofs.Laid.{same_name-refl}
use Rattle.expression_lang.specs.Expression.{Exp, Var}
use Rattle.expression_lang.specs.Evaluation.{Env, State, value}
use Rattle.expression_lang.specs.Signature.{values_of}
use Rattle.monad_lang.specs.Names.{is_in_some}
use Rattle.monad_lang.specs.Agree.{AgreeOn}
use Rattle.monad_lang.proofs.Agreeing.{agree_left, agree_right}
use Rattle.rule_local.specs.Agree.{held}
use Rattle.rule_local.specs.Table.{vars, vars_with}

module _ (l : Layout) (s : State) where
  pub vars_held : (vs : List Name) (env : Env) → values_of l env s (vars vs) ≡ held vs env
  vars_held [] env = refl
  vars_held (x ∷ xs) env = ap (λ vs. env x ∷ vs) (vars_held xs env)

  one_held : (x y : Name) (e : Exp) (env : Env) → (b : Bool) → same_name x y ≡ b → value l env s (cond b e (Var y)) ≡ cond b (value l env s e) (env y)
  one_held x y e env true k = refl
  one_held x y e env false k = refl

  -- the outputs, one of which is set
  pub vars_with_held : (x : Name) (e : Exp) (vs : List Name) (env : Env) → values_of l env s (vars_with x e vs) ≡ held vs (with_name x (value l env s e) env)
  vars_with_held x e [] env = refl
  vars_with_held x e (y ∷ ys) env = ap₂ (λ v vs. v ∷ vs) (one_held x y e env (same_name x y) refl) (vars_with_held x e ys env)

-- none of which is set
pub others_held : (x : Name) (v : Value) (vs : List Name) (env : Env) → is_among x vs ≡ false → held vs (with_name x v env) ≡ held vs env
others_held x v [] env h = refl
others_held x v (y ∷ ys) env h =
    let d = or_parts (same_name x y) (is_among x ys) h in
    ap₂ (λ u us. u ∷ us) (cond-false (same_name x y) v (env y) d.0) (others_held x v ys env d.1)

-- outputs that agree
pub held_alike : (vs : List Name) (env env' : Env) → AgreeOn (λ y. is_in_some y (vars vs)) env env' → held vs env ≡ held vs env'
held_alike [] env env' h = refl
held_alike (x ∷ xs) env env' h =
    ap₂ (λ u us. u ∷ us) (agree_left (λ y. same_name y x) (λ y. is_in_some y (vars xs)) env env' h x (same_name-refl x)) (held_alike xs env env' (agree_right (λ y. same_name y x) (λ y. is_in_some y (vars xs)) env env' h))
