-- What names are bound to.
use Rattle.std.proofs.Common.{◌≡◌, ℕ, suc, ◌==◌, length, Bool, true, false, cond, List, [], ◌∷◌, refl, sym, ap, arith}
use Rattle.std.proofs.lemmas.Bool.{or_from, eqb-true}
use Rattle.std.proofs.lemmas.Bool.Decides.{Decides-eqb}
use Rattle.c_values.specs.Name.{Name, same_name, with_name, is_among}
use Rattle.c_values.specs.Value.{Value}
use Rattle.c_values.proofs.Laid.{other_name}
use Rattle.expression_lang.specs.Evaluation.{Env}
use Rattle.expression_lang.specs.Sort.{Scalar}
use Rattle.expression_lang.specs.Signature.{bound}
use Rattle.program_facts.specs.Lasting.{AreOfSorts}

-- a name that is the same before is the same behind
pub bound_still : (y : Name) (xs : List Name) (vs : List Value) (env env' : Env) → env' y ≡ env y → bound xs vs env' y ≡ bound xs vs env y
bound_still y [] vs env env' h = h
bound_still y (x ∷ xs) [] env env' h = h
bound_still y (x ∷ xs) (v ∷ vs) env env' h = bound_still y xs vs (with_name x v env) (with_name x v env') (ap (λ w. cond (same_name x y) v w) h)

-- as many values as names
abbrev pub AsMany : List Name → List Value → Type 0
AsMany [] [] = Unit {0}
AsMany (x ∷ xs) (v ∷ vs) = AsMany xs vs
AsMany [] (v ∷ vs) = ⊥
AsMany (x ∷ xs) [] = ⊥

pub no_zero : (n : ℕ) → 0 ≡ suc n → ⊥
no_zero n h = omega (arith, h)

pub one_less : (m n : ℕ) → suc m ≡ suc n → m ≡ n
one_less m n h = omega (arith, h)

pub as_many : (xs : List Name) (cs : List Scalar) (vs : List Value) → (length xs == length cs) ≡ true → AreOfSorts cs vs → AsMany xs vs
as_many [] [] [] h k = tt
as_many (x ∷ xs) (c ∷ cs) (v ∷ vs) h k = as_many xs cs vs ((Decides-eqb (length xs) (length cs)).1 (one_less (length xs) (length cs) (eqb-true (suc (length xs)) (suc (length cs)) h))) k.1
as_many (x ∷ xs) (c ∷ cs) [] h k = absurd k
as_many [] [] (v ∷ vs) h k = absurd k
as_many [] (c ∷ cs) vs h k = absurd (no_zero (length cs) (eqb-true 0 (suc (length cs)) h))
as_many (x ∷ xs) [] vs h k = absurd (no_zero (length xs) (sym (eqb-true (suc (length xs)) 0 h)))

either_way : (x y : Name) (v : Value) (env env' : Env) → (same_name y x ≡ false → env' y ≡ env y) → (b : Bool) → same_name x y ≡ b → cond b v (env' y) ≡ cond b v (env y)
either_way x y v env env' h true e = refl
either_way x y v env env' h false e = h (other_name x y e)

-- one of the names, whatever it held; or a name that is the same before
pub bound_alike : (y : Name) (xs : List Name) (vs : List Value) (env env' : Env) → AsMany xs vs → (is_among y xs ≡ false → env' y ≡ env y) → bound xs vs env' y ≡ bound xs vs env y
bound_alike y [] vs env env' k h = h refl
bound_alike y (x ∷ xs) [] env env' k h = absurd k
bound_alike y (x ∷ xs) (v ∷ vs) env env' k h =
    bound_alike y xs vs (with_name x v env) (with_name x v env') k (λ n. either_way x y v env env' (λ e. h (or_from (same_name y x) (is_among y xs) e n)) (same_name x y) refl)
