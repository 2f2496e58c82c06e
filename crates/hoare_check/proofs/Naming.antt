-- Names that are bound again, and assertions that don't have them.
use Rattle.std.proofs.Common.{◌≡◌, ℕ, suc, ◌==◌, length, Bool, true, false, cond, ◌||◌, not, List, [], ◌∷◌, Some, refl, sym, ap, ◌∙◌, arith}
use Rattle.std.proofs.lemmas.Bool.{or_from, eqb-true, and_parts, false_from_ne_true, true≢false, false≢true}
use Rattle.std.proofs.lemmas.Bool.Decides.{Decides-eqb}
use Rattle.c_values.specs.Name.{Name, same_name, with_name, is_among}
use Rattle.c_values.specs.Value.{Value}
use Rattle.c_values.proofs.Laid.{other_name, name_is}
use Rattle.expression_lang.specs.Expression.{Exp}
use Rattle.expression_lang.specs.Mentions.{names}
use Rattle.expression_lang.specs.Evaluation.{Env}
use Rattle.expression_lang.specs.Sort.{Scalar}
use Rattle.expression_lang.specs.Sorted.{names_with}
use Rattle.expression_lang.specs.Signature.{bound}
use Rattle.expression_lang.proofs.Bound.{bound_stays}
use Rattle.monad_lang.specs.Agree.{AgreeOn}
use Rattle.program_facts.specs.Lasting.{AreOfSorts}
use Rattle.triple_lang.specs.Deriv.{Names}
use Rattle.hoare_check.specs.DeriveTable.{are_free_for}

-- as many of these as names
abbrev pub AsMany : {A : Type 0} → List Name → List A → Type 0
AsMany [] [] = Unit {0}
AsMany (x ∷ xs) (v ∷ vs) = AsMany xs vs
AsMany [] (v ∷ vs) = ⊥
AsMany (x ∷ xs) [] = ⊥

no_zero : (n : ℕ) → 0 ≡ suc n → ⊥
no_zero n h = omega (arith, h)

one_less : (m n : ℕ) → suc m ≡ suc n → m ≡ n
one_less m n h = omega (arith, h)

pub as_many : {A : Type 0} (xs : List Name) (vs : List A) → (length xs == length vs) ≡ true → AsMany xs vs
as_many [] [] h = tt
as_many (x ∷ xs) (c ∷ cs) h =
    as_many xs cs ((Decides-eqb (length xs) (length cs)).1 (one_less (length xs) (length cs) (eqb-true (suc (length xs)) (suc (length cs)) h)))
as_many [] (c ∷ cs) h = absurd (no_zero (length cs) (eqb-true 0 (suc (length cs)) h))
as_many (x ∷ xs) [] h = absurd (no_zero (length xs) (sym (eqb-true (suc (length xs)) 0 h)))

pub many_values : (xs : List Name) (cs : List Scalar) (vs : List Value) → AsMany xs cs → AreOfSorts cs vs → AsMany xs vs
many_values [] [] [] h k = tt
many_values (x ∷ xs) (c ∷ cs) (v ∷ vs) h k = many_values xs cs vs h k.1
many_values (x ∷ xs) (c ∷ cs) [] h k = absurd k
many_values [] [] (v ∷ vs) h k = absurd k
many_values [] (c ∷ cs) vs h k = absurd h
many_values (x ∷ xs) [] vs h k = absurd h

either_way : {A : Type 0} (x y : Name) (v w w' : A) → (same_name y x ≡ false → w' ≡ w) → (b : Bool) → same_name x y ≡ b → cond b v w' ≡ cond b v w
either_way x y v w w' h true e = refl
either_way x y v w w' h false e = h (other_name x y e)

-- one of the names, whatever it held; or a name that is the same before
pub bound_alike : (y : Name) (xs : List Name) (vs : List Value) (env env' : Env) → AsMany xs vs → (is_among y xs ≡ false → env' y ≡ env y) →
    bound xs vs env' y ≡ bound xs vs env y
bound_alike y [] vs env env' k h = h refl
bound_alike y (x ∷ xs) [] env env' k h = absurd k
bound_alike y (x ∷ xs) (v ∷ vs) env env' k h =
    bound_alike y xs vs (with_name x v env) (with_name x v env') k
    (λ n. either_way x y v (env y) (env' y) (λ e. h (or_from (same_name y x) (is_among y xs) e n)) (same_name x y) refl)

pub names_alike : (y : Name) (xs : List Name) (cs : List Scalar) (ns ns' : Names) → AsMany xs cs → (is_among y xs ≡ false → ns' y ≡ ns y) →
    names_with xs cs ns' y ≡ names_with xs cs ns y
names_alike y [] cs ns ns' k h = h refl
names_alike y (x ∷ xs) [] ns ns' k h = absurd k
names_alike y (x ∷ xs) (c ∷ cs) ns ns' k h =
    names_alike y xs cs (with_name x (Some c) ns) (with_name x (Some c) ns') k
    (λ n. either_way x y (Some c) (ns y) (ns' y) (λ e. h (or_from (same_name y x) (is_among y xs) e n)) (same_name x y) refl)

pub named_else : (y : Name) (xs : List Name) (cs : List Scalar) (ns : Names) → is_among y xs ≡ false → AsMany xs cs → names_with xs cs ns y ≡ ns y
named_else y [] cs ns h k = refl
named_else y (x ∷ xs) [] ns h k = absurd k
named_else y (x ∷ xs) (c ∷ cs) ns h k = by_test (named_else y xs cs (with_name x (Some c) ns)) (same_name y x) refl (is_among y xs) refl h
  where
    not_here : (b : Bool) → same_name x y ≡ b → same_name y x ≡ false → cond b (Some c) (ns y) ≡ ns y
    not_here true e f = absurd (true≢false (sym e ∙ other_name y x f))
    not_here false e f = refl

    by_test : (is_among y xs ≡ false → AsMany xs cs → names_with xs cs (with_name x (Some c) ns) y ≡ with_name x (Some c) ns y) →
        (a : Bool) → same_name y x ≡ a → (b : Bool) → is_among y xs ≡ b → (a || b) ≡ false → names_with xs cs (with_name x (Some c) ns) y ≡ ns y
    by_test further false e false f g = further f k ∙ not_here (same_name x y) refl e
    by_test further true e b f g = absurd (true≢false g)
    by_test further false e true f g = absurd (true≢false g)

-- no name of ys but those of xs is in the assertion
unnamed_there : (y : Name) (ys xs : List Name) (q : Exp) → are_free_for ys xs q ≡ true → is_among y ys ≡ true → is_among y xs ≡ false → names y q ≡ false
unnamed_there y [] xs q h i j = absurd (false≢true i)
unnamed_there y (z ∷ ys) xs q h i j =
    let k = and_parts (is_among z xs || not (names z q)) (are_free_for ys xs q) h in
    by_test (same_name y z) refl k.0 (unnamed_there y ys xs q k.1) i
  where
    unnamed : (a b : Bool) → (a || not b) ≡ true → a ≡ false → b ≡ false
    unnamed a false h e = refl
    unnamed true true h e = absurd (true≢false e)
    unnamed false true h e = absurd (false≢true h)

    by_test : (b : Bool) → same_name y z ≡ b → (is_among z xs || not (names z q)) ≡ true → (is_among y ys ≡ true → is_among y xs ≡ false → names y q ≡ false) →
        (b || is_among y ys) ≡ true → names y q ≡ false
    by_test true e f g l =
        let same : y ≡ z = name_is y z e in
        ap (λ x. names x q) same ∙ unnamed (is_among z xs) (names z q) f (sym (ap (λ x. is_among x xs) same) ∙ j)
    by_test false e f g l = g l j

named_apart : (y : Name) (ys xs : List Name) (q : Exp) → are_free_for ys xs q ≡ true → names y q ≡ true → is_among y xs ≡ false → is_among y ys ≡ false
named_apart y ys xs q h i j = false_from_ne_true (is_among y ys) (λ k. true≢false (sym i ∙ unnamed_there y ys xs q h k j))

-- what was bound before under the others is the same for the assertion
pub bound_past : (ys xs : List Name) (q : Exp) → are_free_for ys xs q ≡ true → (ws vs : List Value) (env : Env) → AsMany xs vs → AgreeOn (λ y. names y q)
    (bound xs vs (bound ys ws env)) (bound xs vs env)
bound_past ys xs q h ws vs env many y i = bound_alike y xs vs env (bound ys ws env) many (λ j. bound_stays y ys ws env (named_apart y ys xs q h i j))

pub named_past : (ys xs : List Name) (q : Exp) → are_free_for ys xs q ≡ true → (ds cs : List Scalar) (ns : Names) → AsMany ys ds → AsMany xs cs →
    AgreeOn (λ y. names y q) (names_with xs cs (names_with ys ds ns)) (names_with xs cs ns)
named_past ys xs q h ds cs ns some many y i = names_alike y xs cs ns (names_with ys ds ns) many (λ j. named_else y ys ds ns (named_apart y ys xs q h i j) some)

-- names that are bound twice
pub bound_twice : (xs : List Name) (vs ws : List Value) (env : Env) → AsMany xs vs → (y : Name) → bound xs vs (bound xs ws env) y ≡ bound xs vs env y
bound_twice xs vs ws env many y = bound_alike y xs vs env (bound xs ws env) many (λ j. bound_stays y xs ws env j)

pub named_twice : (xs : List Name) (cs ds : List Scalar) (ns : Names) → AsMany xs cs → AsMany xs ds → (y : Name) → names_with xs cs
    (names_with xs ds ns) y ≡ names_with xs cs ns y
named_twice xs cs ds ns many some y = names_alike y xs cs ns (names_with xs ds ns) many (λ j. named_else y xs ds ns j some)
