-- The variables of a function so far: scalars under names of their own, each the k-th of a name.
use Rattle.std.proofs.Common.{◌≡◌, ℕ, ◌+◌, ◌^◌, ◌<◌, Bool, true, false, not, cond, ◌&&◌, ◌||◌, List, [], ◌∷◌, ◌++◌, length, count_by, Some, None, refl, sym, ap, ◌∙◌, subst, arith, length-append, zero-add}
use Rattle.std.proofs.lemmas.Bool.{false≢true, cond-true, cond-false, or_from, not_from_false}
use Rattle.std.proofs.lemmas.List.Sums.{count_by-le-length, sum_by-append}
use Rattle.c_values.specs.Name.{Name, same_name, is_among, are_distinct}
use Rattle.c_values.specs.Types.{CType}
use Rattle.c_values.specs.Layout.{is_scalar}
use Rattle.c_values.proofs.Laid.{other_name}
use Rattle.c_values.specs.CodeSameType.{same_type-refl}
use Rattle.typing_rules.specs.Progress.{numbered}
use Rattle.c_lang.specs.Typed as C
use Rattle.c_lang.specs.WellTyped.{variable_type, is_type, are_variables, is_own_name}
use Rattle.typing_laws.specs.Written.{IsName}
use Rattle.typing_laws.proofs.Tests.{both, left, right, neither, not_true, name_is, name_itself}
use Rattle.typing_laws.proofs.Scopes.{Variables}
use Rattle.typing_laws.proofs.Numbered.{name_plain, numbered_apart, numbered_own}

-- how often a name is declared
abbrev pub times : Name → List Name → ℕ
times x names = count_by (λ y. same_name y x) names

-- the k-th of a name, where so many are declared
pub record IsNumbered (declared : List Name) (own : Name) : Type 0 where
  pub name : Name
  pub number : ℕ
  pub is : own ≡ numbered name number
  pub below : number < times name declared
  pub plain : IsName name

abbrev pub AreNumbered : List Name → List C.Variable → Type 0
AreNumbered declared [] = Unit {0}
AreNumbered declared (v ∷ vs) = IsNumbered declared v.name × AreNumbered declared vs

-- fewer than their numbers can have
abbrev pub IsFew : ℕ → Type 0
IsFew n = n < 2 ^ 64

pub record IsProgress (declared : List Name) (vs : List C.Variable) : Type 0 where
  pub scalars : are_variables vs ≡ true
  pub as_many : length declared ≡ length vs
  pub numbered : AreNumbered declared vs
  pub distinct : IsFew (length vs) → are_distinct (C.variable_names vs) ≡ true

-- a variable more
abbrev pub with_variable : List C.Variable → Name → CType → List C.Variable
with_variable vs own t = vs ++ (record { name = own; type = t } ∷ [])

times_more : (x : Name) (names : List Name) (y : Name) → times x (names ++ (y ∷ [])) ≡ times x names + cond (same_name y x) 1 0
times_more x names y = sum_by-append (λ z. cond (same_name z x) 1 0) names (y ∷ []) ∙ ap (λ k. times x names + k) (zero-add (cond (same_name y x) 1 0))

pub length_more : (vs : List C.Variable) (own : Name) (t : CType) → length (with_variable vs own t) ≡ length vs + 1
length_more vs own t = length-append vs (record { name = own; type = t } ∷ [])

pub few_before : (vs : List C.Variable) (own : Name) (t : CType) → IsFew (length (with_variable vs own t)) → IsFew (length vs)
few_before vs own t h = let e = length_more vs own t in omega (arith, e, h)

scalars_more : (vs : List C.Variable) (own : Name) (t : CType) → are_variables vs ≡ true → is_scalar t ≡ true → is_own_name own ≡ true → are_variables (with_variable vs own t) ≡ true
scalars_more [] own t h s o = both (both s o) refl
scalars_more (v ∷ vs) own t h s o =
    let own' = is_scalar v.type && is_own_name v.name in
    both (left own' (are_variables vs) h) (scalars_more vs own t (right own' (are_variables vs) h) s o)

numbered_later : (declared : List Name) (x own : Name) → IsNumbered declared own → IsNumbered (declared ++ (x ∷ [])) own
numbered_later declared x own h = record {
  name = h.name;
  number = h.number;
  is = h.is;
  plain = h.plain;
  below = let e = times_more h.name declared x in omega (arith, e, h.below);
}

numbered_more : (declared : List Name) (x : Name) (vs : List C.Variable) (own : Name) (t : CType) → AreNumbered declared vs → IsNumbered (declared ++ (x ∷ [])) own → AreNumbered (declared ++ (x ∷ [])) (with_variable vs own t)
numbered_more declared x [] own t h k = (k, tt)
numbered_more declared x (v ∷ vs) own t h k = (numbered_later declared x v.name h.0, numbered_more declared x vs own t h.1 k)

numbered_last : (declared : List Name) (x : Name) → IsName x → IsNumbered (declared ++ (x ∷ [])) (numbered x (times x declared))
numbered_last declared x h = record {
  name = x;
  number = times x declared;
  is = refl;
  plain = h;
  below = let e = times_more x declared x ∙ ap (λ b. times x declared + cond b 1 0) (name_itself x) in omega (arith, e);
}

not_below : (m k : ℕ) → m ≡ k → k < m → ⊥
not_below m k e l = omega (arith, e, l)

-- the next of a name isn't among those before
new_name : (declared : List Name) (x : Name) (vs : List C.Variable) → AreNumbered declared vs → IsName x → length declared + 1 < 2 ^ 64 → is_among (numbered x (times x declared)) (C.variable_names vs) ≡ false
new_name declared x [] h n few = refl
new_name declared x (v ∷ vs) h n few = by_cases (same_name (numbered x (times x declared)) v.name) refl (new_name declared x vs h.1 n few)
  where
    clash : numbered x (times x declared) ≡ v.name → ⊥
    clash e =
        let w = h.0 in
        let c = count_by-le-length (λ y. same_name y x) declared in
        let d = count_by-le-length (λ y. same_name y w.name) declared in
        let p = numbered_apart x w.name (times x declared) w.number (name_plain x n) (name_plain w.name w.plain) (omega (arith, c, few)) (omega (arith, d, w.below, few)) (e ∙ w.is) in
        not_below (times w.name declared) w.number (ap (λ z. times z declared) (sym p.0) ∙ p.1) w.below

    by_cases : (b : Bool) → same_name (numbered x (times x declared)) v.name ≡ b → is_among (numbered x (times x declared)) (C.variable_names vs) ≡ false →
        (b || is_among (numbered x (times x declared)) (C.variable_names vs)) ≡ false
    by_cases true e r = absurd (clash (name_is (numbered x (times x declared)) v.name e))
    by_cases false e r = r

names_more : (vs : List C.Variable) (own : Name) (t : CType) → C.variable_names (with_variable vs own t) ≡ C.variable_names vs ++ (own ∷ [])
names_more [] own t = refl
names_more (v ∷ vs) own t = ap (λ xs. v.name ∷ xs) (names_more vs own t)

still_apart : (x z : Name) (xs : List Name) → is_among x xs ≡ false → same_name z x ≡ false → is_among x (xs ++ (z ∷ [])) ≡ false
still_apart x z [] h c = or_from (same_name x z) false (other_name z x c) refl
still_apart x z (y ∷ xs) h c = let p = neither (same_name x y) (is_among x xs) h in or_from (same_name x y) (is_among x (xs ++ (z ∷ []))) p.0 (still_apart x z xs p.1 c)

distinct_more : (xs : List Name) (z : Name) → are_distinct xs ≡ true → is_among z xs ≡ false → are_distinct (xs ++ (z ∷ [])) ≡ true
distinct_more [] z h c = refl
distinct_more (x ∷ xs) z h c =
    let p = neither (same_name z x) (is_among z xs) c in
    both (not_from_false (is_among x (xs ++ (z ∷ []))) (still_apart x z xs (not_true (is_among x xs) (left (not (is_among x xs)) (are_distinct xs) h)) p.0))
    (distinct_more xs z (right (not (is_among x xs)) (are_distinct xs) h) p.1)

-- the next of a name among all
pub own_is_new : (declared : List Name) (vs : List C.Variable) (x : Name) (t : CType) → IsProgress declared vs → IsName x → IsFew (length (with_variable vs (numbered x (times x declared)) t)) →
    is_among (numbered x (times x declared)) (C.variable_names vs) ≡ false
own_is_new declared vs x t h n few =
    let e = length_more vs (numbered x (times x declared)) t in
    new_name declared x vs h.numbered n (omega (arith, e, few, h.as_many))

pub progress_more : (declared : List Name) (vs : List C.Variable) (x : Name) (t : CType) → IsProgress declared vs → IsName x → is_scalar t ≡ true →
    IsProgress (declared ++ (x ∷ [])) (with_variable vs (numbered x (times x declared)) t)
progress_more declared vs x t h n s =
    let own = numbered x (times x declared) in
    record {
      scalars = scalars_more vs own t h.scalars s (numbered_own x (times x declared) n);
      as_many = length-append declared (x ∷ []) ∙ ap (λ k. k + 1) h.as_many ∙ sym (length_more vs own t);
      numbered = numbered_more declared x vs own t h.numbered (numbered_last declared x n);
      distinct = λ few. subst (λ xs. are_distinct xs ≡ true) (sym (names_more vs own t))
          (distinct_more (C.variable_names vs) own (h.distinct (few_before vs own t few)) (own_is_new declared vs x t h n few));
    }

-- what has a type keeps it
pub type_kept : (vs : List C.Variable) (own : Name) (t : CType) (x : Name) (u : CType) → is_type (variable_type vs x) u ≡ true → is_type (variable_type (with_variable vs own t) x) u ≡ true
type_kept [] own t x u h = absurd (false≢true h)
type_kept (v ∷ vs) own t x u h = by_cases (same_name v.name x) h (type_kept vs own t x u)
  where
    by_cases : (b : Bool) → is_type (cond b (Some v.type) (variable_type vs x)) u ≡ true → (is_type (variable_type vs x) u ≡ true → is_type (variable_type (with_variable vs own t) x) u ≡ true) →
        is_type (cond b (Some v.type) (variable_type (with_variable vs own t) x)) u ≡ true
    by_cases true k r = k
    by_cases false k r = r k

pub type_new : (vs : List C.Variable) (own : Name) (t : CType) → is_among own (C.variable_names vs) ≡ false → is_type (variable_type (with_variable vs own t) own) t ≡ true
type_new [] own t h = subst (λ o. is_type o t ≡ true) (sym (cond-true (same_name own own) (Some t) None (name_itself own))) (same_type-refl t)
type_new (v ∷ vs) own t h =
    let p = neither (same_name own v.name) (is_among own (C.variable_names vs)) h in
    subst (λ o. is_type o t ≡ true) (sym (cond-false (same_name v.name own) (Some v.type) (variable_type (with_variable vs own t) own) (other_name own v.name p.0))) (type_new vs own t p.1)

-- which names stand for variables, where they are few
abbrev pub Among : List C.Variable → Variables
Among vs x t = IsFew (length vs) → is_type (variable_type vs x) t ≡ true

pub among_more : (vs : List C.Variable) (own : Name) (t : CType) (x : Name) (u : CType) → Among vs x u → Among (with_variable vs own t) x u
among_more vs own t x u h few = type_kept vs own t x u (h (few_before vs own t few))

pub among_new : (declared : List Name) (vs : List C.Variable) (x : Name) (t : CType) → IsProgress declared vs → IsName x →
    Among (with_variable vs (numbered x (times x declared)) t) (numbered x (times x declared)) t
among_new declared vs x t h n few = type_new vs (numbered x (times x declared)) t (own_is_new declared vs x t h n few)
