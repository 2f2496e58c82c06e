-- What a name is bound to, and environments that agree.
use Rattle.std.proofs.Common.{◌≡◌, Bool, true, false, cond, List, [], ◌∷◌, refl, ap}
use Rattle.std.proofs.lemmas.Bool.{or_from, cond_both}
use Rattle.c_values.specs.Name.{Name, same_name, with_name, is_among}
use Rattle.c_values.specs.Value.{Value}
use Rattle.c_values.proofs.Laid.{name_is, other_name}
use Rattle.expression_lang.specs.Evaluation.{Env}
use Rattle.expression_lang.specs.Signature.{Binder, names_of, bound}
use Rattle.rule_local.specs.Agree.{held}
use Rattle.rule_local.specs.Kept.{HasEach}

known_or_there : (t env : Env) (x y : Name) → (same_name y x ≡ false → env y ≡ t y) → with_name x (t x) env y ≡ t y
known_or_there t env x y h = cond_both (same_name x y) (t x) (env y) (λ v. v ≡ t y) (λ e. ap t (name_is x y e)) (λ e. h (other_name x y e))

-- names bound to what they have elsewhere
pub bound_is : (t : Env) (y : Name) (xs : List Name) (env : Env) → (is_among y xs ≡ false → env y ≡ t y) → bound xs (held xs t) env y ≡ t y
bound_is t y [] env h = h refl
bound_is t y (x ∷ xs) env h = bound_is t y xs (with_name x (t x) env) (λ k. known_or_there t env x y (λ e. h (or_from (same_name y x) (is_among y xs) e k)))

same_or_there : (x y : Name) (v : Value) (env env' : Env) → (same_name y x ≡ false → env y ≡ env' y) → (b : Bool) → same_name x y ≡ b → cond b v (env y) ≡ cond b v (env' y)
same_or_there x y v env env' h true e = refl
same_or_there x y v env env' h false e = h (other_name x y e)

-- arguments over two environments
pub bound_alike : (y : Name) (bs : List Binder) (vs : List Value) (env env' : Env) → HasEach bs vs → (is_among y (names_of bs) ≡ false → env y ≡ env' y) →
    bound (names_of bs) vs env y ≡ bound (names_of bs) vs env' y
bound_alike y [] vs env env' k h = h refl
bound_alike y (b ∷ bs) [] env env' k h = absurd k
bound_alike y (b ∷ bs) (v ∷ vs) env env' k h =
    bound_alike y bs vs (with_name b.name v env) (with_name b.name v env') k
    (λ n. same_or_there b.name y v env env' (λ e. h (or_from (same_name y b.name) (is_among y (names_of bs)) e n)) (same_name b.name y) refl)
