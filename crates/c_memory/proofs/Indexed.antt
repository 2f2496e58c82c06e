-- Tags by their addresses: the nearest, and one more.
use Rattle.std.proofs.Common.{◌≡◌, ℕ, zero, suc, ◌<◌, ◌≤◌, ◌⊎◌, inl, inr, false, List, [], ◌∷◌, ◌++◌, length, Option, Some, None, IsSome, IfSome, IfNone, slice_get, refl, sym, ap, ◌∙◌, subst, arith, rules}
use Rattle.std.proofs.lemmas.Bool.{cases_lt, cases_order}
use Rattle.std.proofs.lemmas.Grind.{common_steps}
use Rattle.std.specs.Ordering.{nat_cmp}
use Rattle.std.specs.BTreeMap.{BTreeMap, get, is_at}
use Rattle.c_values.proofs.Options.{some_is, none_some}
use Rattle.c_memory.specs.Memory.{Tag}
use Rattle.c_memory.specs.CodeNearest.{IsLastAt, IsFirstAfter}
use Rattle.c_memory.specs.CodeTagIndex.{IsIndex, IsLastTag, IsNextTag}

pub is_some_of : {A : Type 0} (o : Option A) (a : A) → o ≡ Some a → IsSome o
is_some_of None a h = absurd (none_some h)
is_some_of (Some b) a h = search rules

module _ (tags : List Tag) (places : BTreeMap ℕ ℕ) (index : IsIndex tags places) where
  none_at : (a : ℕ) → get nat_cmp places a ≡ None → (j : ℕ) (t : Tag) → slice_get tags j ≡ Some t → t.address ≡ a → ⊥
  none_at a h j t e same = none_some (sym h ∙ ap (λ b. get nat_cmp places b) (sym same) ∙ index.each j t e)

  all_above : (a : ℕ) → ((k : ℕ) → k ≤ a → get nat_cmp places k ≡ None) → (j : ℕ) (t : Tag) → slice_get tags j ≡ Some t → a < t.address
  all_above a h j t e = by_cases (cases_lt a t.address)
    where
      by_cases : (a < t.address) ⊎ (t.address ≤ a) → a < t.address
      by_cases (inl c) = c
      by_cases (inr c) = absurd (none_at t.address (h t.address c) j t e refl)

  all_below : (a : ℕ) → ((k : ℕ) → a < k → get nat_cmp places k ≡ None) → (j : ℕ) (t : Tag) → slice_get tags j ≡ Some t → t.address ≤ a
  all_below a h j t e = by_cases (cases_lt a t.address)
    where
      by_cases : (a < t.address) ⊎ (t.address ≤ a) → t.address ≤ a
      by_cases (inl c) = absurd (none_at t.address (h t.address c) j t e refl)
      by_cases (inr c) = c

  last_tag : (a k : ℕ) → IsLastAt places a k → IsLastTag tags a k
  last_tag a k h =
      let f = index.found h.key k h.is in
      record {
        tag = f.0;
        is = f.1;
        below = subst (λ n. n ≤ a) (sym f.2) h.below;
        last = λ j t e le. subst (λ n. t.address ≤ n) (sym f.2) (h.last t.address le (is_some_of (get nat_cmp places t.address) j (index.each j t e)));
      }

  next_tag : (a k : ℕ) → IsFirstAfter places a k → IsNextTag tags a k
  next_tag a k h =
      let f = index.found h.key k h.is in
      record {
        tag = f.0;
        is = f.1;
        above = subst (λ n. a < n) (sym f.2) h.above;
        first = λ j t e lt. subst (λ n. n ≤ t.address) (sym f.2) (h.first t.address lt (is_some_of (get nat_cmp places t.address) j (index.each j t e)));
      }

  pub last_none : (a : ℕ) (o : Option ℕ) → IfNone o ((k : ℕ) → k ≤ a → get nat_cmp places k ≡ None) → IfNone o ((j : ℕ) (t : Tag) → slice_get tags j ≡ Some t → a < t.address)
  last_none a None h = all_above a h
  last_none a (Some k) h = tt

  pub last_some : (a : ℕ) (o : Option ℕ) → IfSome o (IsLastAt places a) → IfSome o (IsLastTag tags a)
  last_some a None h = tt
  last_some a (Some k) h = last_tag a k h

  pub next_none : (a : ℕ) (o : Option ℕ) → IfNone o ((k : ℕ) → a < k → get nat_cmp places k ≡ None) → IfNone o ((j : ℕ) (t : Tag) → slice_get tags j ≡ Some t → t.address ≤ a)
  next_none a None h = all_below a h
  next_none a (Some k) h = tt

  pub next_some : (a : ℕ) (o : Option ℕ) → IfSome o (IsFirstAfter places a) → IfSome o (IsNextTag tags a)
  next_some a None h = tt
  next_some a (Some k) h = next_tag a k h

pushed_cases : {A : Type 0} (xs : List A) (x y : A) (k : ℕ) → slice_get (xs ++ x ∷ []) k ≡ Some y → (slice_get xs k ≡ Some y) ⊎ ((k ≡ length xs) × (x ≡ y))
pushed_cases [] x y zero h = inr (refl, some_is h)
pushed_cases [] x y (suc k) h = absurd (none_some h)
pushed_cases (z ∷ zs) x y zero h = inl h
pushed_cases (z ∷ zs) x y (suc k) h = further (pushed_cases zs x y k h)
  where
    further : (slice_get zs k ≡ Some y) ⊎ ((k ≡ length zs) × (x ≡ y)) → (slice_get (z ∷ zs) (suc k) ≡ Some y) ⊎ ((suc k ≡ length (z ∷ zs)) × (x ≡ y))
    further (inl e) = inl e
    further (inr e) = inr (ap suc e.0, e.1)

pushed_here : {A : Type 0} (xs : List A) (x : A) → slice_get (xs ++ x ∷ []) (length xs) ≡ Some x
pushed_here [] x = refl
pushed_here (y ∷ ys) x = pushed_here ys x

pushed_before : {A : Type 0} (xs : List A) (x y : A) (k : ℕ) → slice_get xs k ≡ Some y → slice_get (xs ++ x ∷ []) k ≡ Some y
pushed_before [] x y k h = absurd (none_some h)
pushed_before (z ∷ zs) x y zero h = h
pushed_before (z ∷ zs) x y (suc k) h = pushed_before zs x y k h

apart_keys : (a q : ℕ) → (q ≡ a → ⊥) → is_at (nat_cmp a) q ≡ false
apart_keys a q h = grind (arith, common_steps)

-- one tag more, at an address that none has
pub pushed : (tags : List Tag) (old new : BTreeMap ℕ ℕ) (t : Tag) → IsIndex tags old → ((k : ℕ) (u : Tag) → slice_get tags k ≡ Some u → u.address ≡ t.address → ⊥) →
    get nat_cmp new t.address ≡ Some (length tags) → ((q : ℕ) → is_at (nat_cmp t.address) q ≡ false → get nat_cmp new q ≡ get nat_cmp old q) → IsIndex (tags ++ t ∷ []) new
pushed tags old new t index apart here others = record { each = each; found = found }
  where
    each : (k : ℕ) (u : Tag) → slice_get (tags ++ t ∷ []) k ≡ Some u → get nat_cmp new u.address ≡ Some k
    each k u e = by_cases (pushed_cases tags t u k e)
      where
        by_cases : (slice_get tags k ≡ Some u) ⊎ ((k ≡ length tags) × (t ≡ u)) → get nat_cmp new u.address ≡ Some k
        by_cases (inl c) = others u.address (apart_keys t.address u.address (apart k u c)) ∙ index.each k u c
        by_cases (inr c) = ap (λ v. get nat_cmp new v.address) (sym c.1) ∙ here ∙ ap Some (sym c.0)

    found : (a k : ℕ) → get nat_cmp new a ≡ Some k → (u : Tag) × (slice_get (tags ++ t ∷ []) k ≡ Some u) × (u.address ≡ a)
    found a k e = by_cases (cases_order a t.address)
      where
        old_one : (a ≡ t.address → ⊥) → (u : Tag) × (slice_get (tags ++ t ∷ []) k ≡ Some u) × (u.address ≡ a)
        old_one ne = let f = index.found a k (sym (others a (apart_keys t.address a ne)) ∙ e) in (f.0, pushed_before tags t f.0 k f.1, f.2)

        by_cases : (a ≡ t.address) ⊎ ((a < t.address) ⊎ (t.address < a)) → (u : Tag) × (slice_get (tags ++ t ∷ []) k ≡ Some u) × (u.address ≡ a)
        by_cases (inl c) =
            let at : length tags ≡ k = some_is (sym here ∙ ap (λ b. get nat_cmp new b) (sym c) ∙ e) in
            (t, ap (λ n. slice_get (tags ++ t ∷ []) n) (sym at) ∙ pushed_here tags t, sym c)
        by_cases (inr (inl c)) = old_one (λ same. omega arith)
        by_cases (inr (inr c)) = old_one (λ same. omega arith)
