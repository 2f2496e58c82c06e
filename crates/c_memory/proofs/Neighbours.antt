-- Tags that are apart: the last at or below an address is the only one that covers it, and an object is apart from all
-- where it is apart from its neighbours.
use Rattle.std.proofs.Common.{◌≡◌, ℕ, zero, suc, ◌+◌, ◌-◌, ◌<◌, ◌≤◌, nat_le, ◌⊎◌, inl, inr, Bool, true, false, ◌&&◌, ◌||◌, List, [], ◌∷◌, length, map, get_or, Option, Some, None, is_some, slice_get, refl, sym, ap, ◌∙◌, subst, arith}
use Rattle.std.proofs.lemmas.Bool.{false≢true, and_from, cases_lt, le-leb, lt-leb, cond-true, cond-false}
use Rattle.std.proofs.lemmas.List.{length-map}
use Rattle.std.proofs.lemmas.Option.{slice_get-map, slice_get-get_or, slice_get_within}
use Rattle.std.specs.Option.{option_map}
use Rattle.std.proofs.lemmas.Bool.Decides.{nat_tests}
use Rattle.c_values.specs.Types.{CType}
use Rattle.c_values.specs.Layout.{Layout, IsLayout, shape_of, size_of}
use Rattle.c_values.specs.Path.{Step}
use Rattle.c_memory.specs.Memory.{Tag}
use Rattle.c_memory.specs.Tags.{IsTag, AreApart, ApartFrom, AreTags, root_path, path_from, is_covered}
use Rattle.c_memory.specs.CodeTagIndex.{IsLastTag, AllEndBy, OneEndsAfter, AllBeginAfter, OneBeginsWithin}
use Rattle.c_memory.specs.TagFault.{are_apart, is_apart}
use Rattle.c_values.proofs.Formed.{size_some}
use Rattle.c_values.proofs.Options.{some_is, none_some}
use Rattle.c_memory.proofs.Covered.{root_of}
use Rattle.c_memory.proofs.Rows.{object_some}

pub tag_at : (l : Layout) (ts : List Tag) (k : ℕ) (t : Tag) → AreTags l ts → slice_get ts k ≡ Some t → IsTag l t
tag_at l [] k t h e = absurd (none_some e)
tag_at l (u ∷ us) zero t h e = subst (λ v. IsTag l v) (some_is e) h.0
tag_at l (u ∷ us) (suc k) t h e = tag_at l us k t h.2 e

pub apart_here : (l : Layout) (t : Tag) (us : List Tag) (k : ℕ) (v : Tag) → ApartFrom l t us → slice_get us k ≡ Some v → AreApart l t v
apart_here l t [] k v h e = absurd (none_some e)
apart_here l t (u ∷ us) zero v h e = subst (λ w. AreApart l t w) (some_is e) h.0
apart_here l t (u ∷ us) (suc k) v h e = apart_here l t us k v h.1 e

swapped : (l : Layout) (t u : Tag) → AreApart l t u → AreApart l u t
swapped l t u (inl h) = inr h
swapped l t u (inr h) = inl h

-- two tags of a list are one tag, or apart
pub same_or_apart : (l : Layout) (ts : List Tag) (j k : ℕ) (t u : Tag) → AreTags l ts → slice_get ts j ≡ Some t → slice_get ts k ≡ Some u → (t ≡ u) ⊎ AreApart l t u
same_or_apart l [] j k t u h e f = absurd (none_some e)
same_or_apart l (v ∷ vs) zero zero t u h e f = inl (some_is (sym e ∙ f))
same_or_apart l (v ∷ vs) zero (suc k) t u h e f = inr (subst (λ w. AreApart l w u) (some_is e) (apart_here l v vs k u h.1 f))
same_or_apart l (v ∷ vs) (suc j) zero t u h e f = inr (swapped l u t (subst (λ w. AreApart l w t) (some_is f) (apart_here l v vs j t h.1 e)))
same_or_apart l (v ∷ vs) (suc j) (suc k) t u h e f = same_or_apart l vs j k t u h.2 e f

-- the tag that covers a root, by its position
pub record IsCovering (l : Layout) (ts : List Tag) (t : CType) (a : ℕ) : Type 0 where
  pub position : ℕ
  pub tag : Tag
  pub is : slice_get ts position ≡ Some tag
  pub path : List Step
  pub finds : path_from l tag t a ≡ Some path

covering : (l : Layout) (ts : List Tag) (t : CType) (a : ℕ) → is_covered l ts t a ≡ true → IsCovering l ts t a
covering l [] t a h = absurd (false≢true h)
covering l (u ∷ us) t a h = by_path (λ k. covering l us t a k) (path_from l u t a) refl h
  where
    by_path : (is_covered l us t a ≡ true → IsCovering l us t a) → (o : Option (List Step)) → path_from l u t a ≡ o → (is_some o || is_covered l us t a) ≡ true → IsCovering l (u ∷ us) t a
    by_path rest (Some p) e k = record { position = 0; tag = u; is = refl; path = p; finds = e }
    by_path rest None e k = let r = rest k in record { position = suc r.position; tag = r.tag; is = r.is; path = r.path; finds = r.finds }

pub covered_at : (l : Layout) (ts : List Tag) (t : CType) (a k : ℕ) (u : Tag) → slice_get ts k ≡ Some u → is_some (path_from l u t a) ≡ true → is_covered l ts t a ≡ true
covered_at l [] t a k u e h = absurd (none_some e)
covered_at l (v ∷ vs) t a zero u e h = ap (λ b. b || is_covered l vs t a) (ap (λ w. is_some (path_from l w t a)) (some_is e) ∙ h)
covered_at l (v ∷ vs) t a (suc k) u e h = ap (λ b. is_some (path_from l v t a) || b) (covered_at l vs t a k u e h) ∙ or_true (is_some (path_from l v t a))
  where
    or_true : (b : Bool) → (b || true) ≡ true
    or_true true = refl
    or_true false = refl

-- no tag covers an address below all of them
pub none_covers : (l : Layout) (ts : List Tag) (t : CType) (a : ℕ) → ((k : ℕ) (u : Tag) → slice_get ts k ≡ Some u → a < u.address) → is_covered l ts t a ≡ false
none_covers l [] t a above = refl
none_covers l (u ∷ us) t a above =
    let out : nat_le u.address a ≡ false = lt-leb u.address a (above 0 u refl) in
    ap (λ o. is_some o || is_covered l us t a) (cond-false (nat_le u.address a) (root_path (shape_of l u.type) t (a - u.address)) None out) ∙ none_covers l us t a (λ k v e. above (suc k) v e)

-- the path from a tag at or below an address
pub path_of : (l : Layout) (u : Tag) (t : CType) (a : ℕ) → u.address ≤ a → path_from l u t a ≡ root_path (shape_of l u.type) t (a - u.address)
path_of l u t a le = cond-true (nat_le u.address a) (root_path (shape_of l u.type) t (a - u.address)) None (le-leb u.address a le)

pub within_list : {A B : Type 0} (f : A → B) (xs : List A) (ys : List B) (k : ℕ) (y : B) → map f xs ≡ ys → slice_get ys k ≡ Some y → k < length xs
within_list f xs ys k y same e =
    let long : length xs ≡ length ys = sym (length-map xs f) ∙ ap length same in
    let lt = slice_get_within ys k y e in
    omega (arith, lt)

-- what an index into a list gives, by the list that the contract sees
pub item_at : {A B : Type 0} (f : A → B) (xs : List A) (ys : List B) (k : ℕ) (x : A) (y : B) → map f xs ≡ ys → slice_get ys k ≡ Some y → x ≡ get_or xs k x → f x ≡ y
item_at f xs ys k x y same e is =
    let here : k < length xs = within_list f xs ys k y same e in
    some_is (sym (slice_get-map f xs k ∙ ap (option_map f) (slice_get-get_or xs k x here ∙ ap Some (sym is))) ∙ ap (λ zs. slice_get zs k) same ∙ e)

module _ (l : Layout) (h : IsLayout l) (ts : List Tag) (tags : AreTags l ts) where
  some_size : (k : ℕ) (t : Tag) → slice_get ts k ≡ Some t → 0 < size_of l t.type
  some_size k t e = object_some l t.type h (tag_at l ts k t tags e).object

  -- the last tag at or below the address is the one that covers it
  pub last_covers : (t : CType) (a k : ℕ) (last : IsLastTag ts a k) → is_some (path_from l last.tag t a) ≡ false → is_covered l ts t a ≡ false
  last_covers t a k last out = by_cover (is_covered l ts t a) refl
    where
      by_tags : (w : IsCovering l ts t a) → w.tag.address ≤ last.tag.address → a < w.tag.address + size_of l w.tag.type → (w.tag ≡ last.tag) ⊎ AreApart l w.tag last.tag → ⊥
      by_tags w near until (inl e) = false≢true (sym out ∙ ap (λ v. is_some (path_from l v t a)) (sym e) ∙ ap is_some w.finds)
      by_tags w near until (inr (inl c)) = let b = last.below in omega arith
      by_tags w near until (inr (inr c)) = let s = some_size k last.tag last.is in omega arith

      only : IsCovering l ts t a → ⊥
      only w =
          let root = root_of l h w.tag t a w.path (tag_at l ts w.position w.tag tags w.is) w.finds in
          let some = size_some (shape_of l t) root.within.formed in
          let from : w.tag.address ≤ a = omega (arith, root.address) in
          let until : a < w.tag.address + size_of l w.tag.type = omega (arith, root.address, root.within.ends, some) in
          by_tags w (last.last w.position w.tag w.is from) until (same_or_apart l ts w.position k w.tag last.tag tags w.is last.is)

      by_cover : (b : Bool) → is_covered l ts t a ≡ b → is_covered l ts t a ≡ false
      by_cover true e = absurd (only (covering l ts t a e))
      by_cover false e = e

  -- the last tag at or below an address tells whether all end by it
  pub last_ends : (a k : ℕ) (last : IsLastTag ts a k) → last.tag.address + size_of l last.tag.type ≤ a → AllEndBy l ts a
  last_ends a k last end = record { all = all }
    where
      by_tags : (j : ℕ) (t : Tag) → slice_get ts j ≡ Some t → t.address ≤ last.tag.address → (t ≡ last.tag) ⊎ AreApart l t last.tag → t.address + size_of l t.type ≤ a
      by_tags j t e near (inl c) = subst (λ v. v.address + size_of l v.type ≤ a) (sym c) end
      by_tags j t e near (inr (inl c)) = let b = last.below in omega arith
      by_tags j t e near (inr (inr c)) = let s = some_size k last.tag last.is in absurd (omega arith)

      all : (j : ℕ) (t : Tag) → slice_get ts j ≡ Some t → t.address ≤ a → t.address + size_of l t.type ≤ a
      all j t e le = by_tags j t e (last.last j t e le) (same_or_apart l ts j k t last.tag tags e last.is)

apart_by_end : (m n p q : ℕ) → n ≤ p → (nat_le q m || nat_le n p) ≡ true
apart_by_end m n p q h = grind (arith, nat_tests)

apart_by_start : (m n p q : ℕ) → q ≤ m → (nat_le q m || nat_le n p) ≡ true
apart_by_start m n p q h = grind (arith, nat_tests)

overlap : (m n p q : ℕ) → m < q → p < n → (nat_le q m || nat_le n p) ≡ false
overlap m n p q h k = grind (arith, nat_tests)

pub apart_all : (l : Layout) (t : Tag) (ts : List Tag) → ((j : ℕ) (u : Tag) → slice_get ts j ≡ Some u → are_apart l t u ≡ true) → is_apart l t ts ≡ true
apart_all l t [] h = refl
apart_all l t (u ∷ us) h = and_from (are_apart l t u) (is_apart l t us) (h 0 u refl) (apart_all l t us (λ j v e. h (suc j) v e))

not_apart_one : (l : Layout) (t : Tag) (ts : List Tag) (k : ℕ) (u : Tag) → slice_get ts k ≡ Some u → are_apart l t u ≡ false → is_apart l t ts ≡ false
not_apart_one l t [] k u e h = absurd (none_some e)
not_apart_one l t (v ∷ vs) zero u e h = ap (λ b. b && is_apart l t vs) (ap (λ w. are_apart l t w) (some_is e) ∙ h)
not_apart_one l t (v ∷ vs) (suc k) u e h = ap (λ b. are_apart l t v && b) (not_apart_one l t vs k u e h) ∙ and_false (are_apart l t v)
  where
    and_false : (b : Bool) → (b && false) ≡ false
    and_false true = refl
    and_false false = refl

module _ (l : Layout) (ts : List Tag) (t : Tag) (some : 0 < size_of l t.type) where
  pub apart_from_neighbours : AllEndBy l ts t.address → AllBeginAfter ts t.address (size_of l t.type) → is_apart l t ts ≡ true
  apart_from_neighbours before after = apart_all l t ts one
    where
      one : (j : ℕ) (u : Tag) → slice_get ts j ≡ Some u → are_apart l t u ≡ true
      one j u e = by_order (cases_lt t.address u.address)
        where
          by_order : (t.address < u.address) ⊎ (u.address ≤ t.address) → are_apart l t u ≡ true
          by_order (inl c) = apart_by_start u.address (u.address + size_of l u.type) t.address (t.address + size_of l t.type) (after.all j u e c)
          by_order (inr c) = apart_by_end u.address (u.address + size_of l u.type) t.address (t.address + size_of l t.type) (before.all j u e c)

  pub over_one : OneEndsAfter l ts t.address → is_apart l t ts ≡ false
  over_one o = not_apart_one l t ts o.position o.tag o.is (overlap o.tag.address (o.tag.address + size_of l o.tag.type) t.address (t.address + size_of l t.type) (let b = o.below in omega arith) o.over)

  pub into_one : OneBeginsWithin ts t.address (size_of l t.type) → is_apart l t ts ≡ false
  into_one o = not_apart_one l t ts o.position o.tag o.is (overlap o.tag.address (o.tag.address + size_of l o.tag.type) t.address (t.address + size_of l t.type) o.within (let b = o.above in omega arith))
