-- The names of a window that pass are marked one by one.
use Rattle.std.proofs.Common.{◌≡◌, ◌≢◌, ◌<◌, ◌≤◌, ◌+◌, ◌-◌, ℕ, zero, suc, Bool, true, false, ◌||◌, List, [], ◌∷◌, length, sym, ap, subst, ◌∙◌, arith, drop, ◌⊎◌, inl, inr}
use Rattle.std.proofs.Math.Nat.{eq-or-lt_of_le}
use Rattle.std.proofs.lemmas.Bool.{false≢true, or_cases, cases_lt}
use Rattle.c_values.specs.Name.{Name, same_name, is_among}
use Rattle.c_values.proofs.Laid.{name_is}
use Rattle.std.specs.Prelude.{map}
use Rattle.expression_lang.specs.Signature.{Binder, names_of}
use Rattle.rule_local.specs.CodeMarks.{is_marked, IsAt, IsMarkable}

module _ (test : Name → Bool) (whole : List Name) (x : Name) (xs : List Name) (k found found' : ℕ)
    (along : (i : ℕ) (y : Name) → IsAt whole (k + i) y → IsAt (x ∷ xs) i y)
    (before : (i : ℕ) (y : Name) → i < k → IsAt whole i y → is_marked found i ≡ test y)
    (behind : (i : ℕ) → k ≤ i → is_marked found i ≡ false)
    (there : is_marked found' k ≡ (is_marked found k || test x))
    (others : (i : ℕ) → i ≢ k → is_marked found' i ≡ is_marked found i) where
  pub along_next : (i : ℕ) (y : Name) → IsAt whole (k + 1 + i) y → IsAt xs i y
  along_next i y h = let e : k + 1 + i ≡ k + suc i = omega arith in along (suc i) y (subst (λ n. IsAt whole n y) e h)

  pub behind_next : (i : ℕ) → k + 1 ≤ i → is_marked found' i ≡ false
  behind_next i h = let ne : i ≢ k = omega arith in let le : k ≤ i = omega arith in others i ne ∙ behind i le

  this_one : (y : Name) → IsAt whole k y → is_marked found' k ≡ test y
  this_one y h =
      let e : k ≡ k + 0 = omega arith in
      there ∙ ap (λ b. b || test x) (behind k (omega arith)) ∙ ap test (along 0 y (subst (λ n. IsAt whole n y) e h))

  by_place : (i : ℕ) (y : Name) → i < k + 1 → IsAt whole i y → (i ≡ k) ⊎ (i < k) → is_marked found' i ≡ test y
  by_place i y h a (inl e) = subst (λ n. is_marked found' n ≡ test y) (sym e) (this_one y (subst (λ n. IsAt whole n y) e a))
  by_place i y h a (inr l) = let ne : i ≢ k = omega arith in others i ne ∙ before i y l a

  pub before_next : (i : ℕ) (y : Name) → i < k + 1 → IsAt whole i y → is_marked found' i ≡ test y
  before_next i y h a = let le : i ≤ k = omega arith in by_place i y h a (eq-or-lt_of_le le)

-- where no name is left, all are marked
pub all_passed : (test : Name → Bool) (whole : List Name) (k found : ℕ) → ((i : ℕ) (y : Name) → IsAt whole (k + i) y → ⊥) → ((i : ℕ) (y : Name) → i < k → IsAt whole i y → is_marked found i ≡ test y) →
    (i : ℕ) (y : Name) → IsAt whole i y → is_marked found i ≡ test y
all_passed test whole k found none before i y a = by_place (cases_lt i k)
  where
    by_place : (i < k) ⊎ (k ≤ i) → is_marked found i ≡ test y
    by_place (inl h) = before i y h a
    by_place (inr h) = let e : i ≡ k + (i - k) = omega arith in absurd (none (i - k) y (subst (λ n. IsAt whole n y) e a))

-- no name stands among none
pub none_there : {A : Type 0} (f : A → Binder) (bs : List A) → length bs ≡ 0 → (i : ℕ) (y : Name) → IsAt (names_of (map f bs)) i y → ⊥
none_there f [] e i y h = h
none_there f (b ∷ bs) e i y h = cc

-- a name of some binders stands at one of the first places, or behind them
module _ {A : Type 0} (f : A → Binder) (y : Name) where
  abbrev IsFirst : ℕ → List A → Type 0
  IsFirst n bs = (i : ℕ) × (i < n) × IsAt (names_of (map f bs)) i y

  abbrev IsBehind : ℕ → List A → Type 0
  IsBehind n bs = is_among y (names_of (map f (drop n bs))) ≡ true

  one_later : (b : A) (bs : List A) (n : ℕ) → IsFirst n bs ⊎ IsBehind n bs → IsFirst (suc n) (b ∷ bs) ⊎ IsBehind n bs
  one_later b bs n (inl p) = inl (suc p.0, omega (arith, p.1), p.2)
  one_later b bs n (inr h) = inr h

  here_or_later : (b : A) (bs : List A) (n : ℕ) → (same_name y (f b).name ≡ true) ⊎ (is_among y (names_of (map f bs)) ≡ true) →
      (is_among y (names_of (map f bs)) ≡ true → IsFirst n bs ⊎ IsBehind n bs) → IsFirst (suc n) (b ∷ bs) ⊎ IsBehind n bs
  here_or_later b bs n (inl e) k = inl (0, omega arith, sym (name_is y (f b).name e))
  here_or_later b bs n (inr h) k = one_later b bs n (k h)

  first_or_behind : (n : ℕ) (bs : List A) → is_among y (names_of (map f bs)) ≡ true → IsFirst n bs ⊎ IsBehind n bs
  first_or_behind n [] h = absurd (false≢true h)
  first_or_behind zero (b ∷ bs) h = inr h
  first_or_behind (suc n) (b ∷ bs) h = here_or_later b bs n (or_cases (same_name y (f b).name) (is_among y (names_of (map f bs))) h) (first_or_behind n bs)

  -- what holds of each name that can be marked holds of the name already, or now, or the name stands behind them
  pub kept_or_behind : (P : Type 0) (bs : List A) → ((i : ℕ) → IsMarkable (names_of (map f bs)) i y → P) → P ⊎ (is_among y (names_of (map f bs)) ≡ true) → P ⊎ IsBehind 64 bs
  kept_or_behind P bs h (inl p) = inl p
  kept_or_behind P bs h (inr k) = at_place (first_or_behind 64 bs k)
    where
      at_place : IsFirst 64 bs ⊎ IsBehind 64 bs → P ⊎ IsBehind 64 bs
      at_place (inl p) = inl (h p.0 (record { within = p.1; at = p.2 }))
      at_place (inr b) = inr b
