-- Covered roots: each has one tag, lies within it and is where a pointer may point.
use Rattle.std.proofs.Common.{◌≡◌, ℕ, zero, suc, ◌+◌, ◌-◌, ◌%◌, ◌<◌, ◌≤◌, nat_eq, nat_le, ◌⊎◌, inl, inr, Bool, true, false, not, ◌&&◌, ◌||◌, cond, List, [], ◌∷◌, Option, Some, None, is_some, Contains, refl, sym, ap, ap₂, ◌∙◌, subst, arith, leb-true, le-leb, eqb-true, eq-eqb}
use Rattle.std.proofs.Math.Nat.{dvd_trans, dvd-add, mod-eq-zero_of_dvd, dvd_of_mod-eq-zero}
use Prim.Native.Nat.{◌∣◌}
use Rattle.std.proofs.lemmas.Bool.{false≢true, and_parts, and_from, or_left, or_right, cond-true, not-true, not_from_false, ne_eqb, eqb-false}
use Rattle.c_values.specs.Types.{CType}
use Rattle.c_values.specs.Layout.{Layout, IsLayout, shape_of, size_of, align_of, space}
use Rattle.c_values.specs.Path.{Step}
use Rattle.c_values.proofs.Formed.{size_some}
use Rattle.c_values.proofs.Leads.{Leads}
use Rattle.c_values.proofs.Geometry.{IsWithin, leads_within}
use Rattle.c_values.proofs.Laid.{IsGood, structs_of, shape_good}
use Rattle.c_values.proofs.Options.{none_some}
use Rattle.c_memory.specs.Memory.{Tag}
use Rattle.c_memory.specs.Tags.{is_root_type, is_pointer_ok, IsTag, AreApart, ApartFrom, AreTags, IsPart, root_path, path_from, is_covered}
use Rattle.c_memory.proofs.Objects.{object_complete}
use Rattle.c_memory.proofs.Roots.{found_part, found_leads, part_reached}
use Rattle.c_memory.proofs.OnePath.{leads_found}

-- a root within a tag's object, at the end of a path
pub record IsRoot (l : Layout) (u : Tag) (t : CType) (a : ℕ) (path : List Step) : Type 0 where
  pub at : ℕ
  pub address : u.address + at ≡ a
  pub leads : Leads (shape_of l u.type) path at (shape_of l t)
  pub within : IsWithin (align_of l u.type) (size_of l u.type) at (shape_of l t)
  pub part : IsPart (shape_of l u.type) at t

path_parts : (l : Layout) (u : Tag) (t : CType) (a : ℕ) (path : List Step) → path_from l u t a ≡ Some path → (u.address ≤ a) × (root_path (shape_of l u.type) t (a - u.address) ≡ Some path)
path_parts l u t a path h = by_cases (nat_le u.address a) refl h
  where
    by_cases : (b : Bool) → nat_le u.address a ≡ b → cond b (root_path (shape_of l u.type) t (a - u.address)) None ≡ Some path →
        (u.address ≤ a) × (root_path (shape_of l u.type) t (a - u.address) ≡ Some path)
    by_cases true e k = (leb-true u.address a e, k)
    by_cases false e k = absurd (none_some k)

-- where a pointer may point
pub record MayPoint (l : Layout) (t : CType) (a : ℕ) : Type 0 where
  pub aligned : align_of l t ∣ a
  pub some : 0 < a
  pub fits : a + size_of l t ≤ space l

positive : (a : ℕ) → (a ≡ 0 → ⊥) → 0 < a
positive a h = omega arith

pub pointer_parts : (l : Layout) (t : CType) (a : ℕ) → is_pointer_ok l t a ≡ true → MayPoint l t a
pointer_parts l t a h =
    let p = and_parts (nat_eq (a % align_of l t) 0 && not (nat_eq a 0)) (nat_le (a + size_of l t) (space l)) h in
    let q = and_parts (nat_eq (a % align_of l t) 0) (not (nat_eq a 0)) p.0 in
    record {
      aligned = dvd_of_mod-eq-zero (align_of l t) (eqb-true (a % align_of l t) 0 q.0);
      some = positive a (eqb-false a 0 (not-true (nat_eq a 0) q.1));
      fits = leb-true (a + size_of l t) (space l) p.1;
    }

pointer_from : (l : Layout) (t : CType) (a : ℕ) → MayPoint l t a → is_pointer_ok l t a ≡ true
pointer_from l t a h =
    and_from (nat_eq (a % align_of l t) 0 && not (nat_eq a 0)) (nat_le (a + size_of l t) (space l))
    (and_from (nat_eq (a % align_of l t) 0) (not (nat_eq a 0))
    (eq-eqb (a % align_of l t) 0 (mod-eq-zero_of_dvd (align_of l t) h.aligned))
    (not_from_false (nat_eq a 0) (ne_eqb a 0 (λ e. omega (arith, h.some)))))
    (le-leb (a + size_of l t) (space l) h.fits)

module _ (l : Layout) (h : IsLayout l) where
  pub tag_good : (u : Tag) → IsTag l u → IsGood l.target (structs_of l) (shape_of l u.type)
  tag_good u i = shape_good l h u.type (object_complete l u.type i.object)

  pub root_of : (u : Tag) (t : CType) (a : ℕ) (path : List Step) → IsTag l u → path_from l u t a ≡ Some path → IsRoot l u t a path
  root_of u t a path i e =
      let p = path_parts l u t a path e in
      let at = a - u.address in
      let f = found_part (shape_of l u.type) t at path p.1 in
      let g = tag_good u i in
      let leads = found_leads l u.type t at path h (object_complete l u.type i.object) p.1 in
      record { at = at; address = omega (arith, p.0); leads = leads; within = leads_within g.formed leads; part = f.part }

  -- each part of a tag's object is a root of it
  pub part_path : (u : Tag) (t : CType) (d : ℕ) → IsTag l u → IsPart (shape_of l u.type) d t → (path : List Step) × (path_from l u t (u.address + d) ≡ Some path)
  part_path u t d i p =
      let g = tag_good u i in
      let r = part_reached l.target (structs_of l) g.laid p in
      let found = leads_found l.target (structs_of l) g.formed g.laid r.leads (ap is_root_type r.type ∙ r.root) in (
        r.path,
        cond-true (nat_le u.address (u.address + d)) _ None (le-leb u.address (u.address + d) (omega arith))
            ∙ ap₂ (λ v c. root_path (shape_of l u.type) v c) (sym r.type) (back u.address d) ∙ found,
      )
    where
      back : (a d : ℕ) → a + d - a ≡ d
      back a d = omega arith

  root_within : (u : Tag) (t : CType) (a : ℕ) (path : List Step) → IsTag l u → path_from l u t a ≡ Some path → (u.address ≤ a) × (a < u.address + size_of l u.type)
  root_within u t a path i e =
      let r = root_of u t a path i e in
      let some : 0 < size_of l t = size_some (shape_of l t) r.within.formed in
      let end : r.at + size_of l t ≤ size_of l u.type = r.within.ends in
      let address : u.address + r.at ≡ a = r.address in
      (omega arith, omega arith)

  pub root_pointer_ok : (u : Tag) (t : CType) (a : ℕ) (path : List Step) → IsTag l u → path_from l u t a ≡ Some path → is_pointer_ok l t a ≡ true
  root_pointer_ok u t a path i e =
      let r = root_of u t a path i e in
      let w = r.within in
      let p = pointer_parts l u.type u.address i.placed in
      let address : u.address + r.at ≡ a = r.address in
      let some : 0 < u.address = p.some in
      let fit : u.address + size_of l u.type ≤ space l = p.fits in
      let end : r.at + size_of l t ≤ size_of l u.type = w.ends in
      pointer_from l t a (record {
        aligned = subst (λ x. align_of l t ∣ x) address (dvd-add (align_of l t) (dvd_trans (align_of l t) w.divides p.aligned) w.aligned);
        some = omega arith;
        fits = omega arith;
      })

contains_cases : {A : Type 0} (y : A) (ys : List A) (x : A) → Contains (y ∷ ys) x → (y ≡ x) ⊎ Contains ys x
contains_cases y ys x (zero, lt, e) = inl e
contains_cases y ys x (suc k, lt, e) = inr (k, omega arith, e)

contains_first : {A : Type 0} (y : A) (ys : List A) → Contains (y ∷ ys) y
contains_first y ys = (0, omega arith, refl)

contains_later : {A : Type 0} (y : A) (ys : List A) (x : A) → Contains ys x → Contains (y ∷ ys) x
contains_later y ys x (k, lt, e) = (suc k, omega arith, e)

pub contains_nothing : {A : Type 0} (x : A) → Contains [] x → ⊥
contains_nothing x h = omega (arith, h.1)

pub tag_among : (l : Layout) (ts : List Tag) (u : Tag) → AreTags l ts → Contains ts u → IsTag l u
tag_among l [] u h c = absurd (contains_nothing u c)
tag_among l (t ∷ ts) u h c = elim (contains_cases t ts u c) [ inl e ↦ subst (λ x. IsTag l x) e h.0 | inr d ↦ tag_among l ts u h.2 d ]

-- a covered root is in the object of a tag
pub covered_tag : (l : Layout) (ts : List Tag) (t : CType) (a : ℕ) → is_covered l ts t a ≡ true → (u : Tag) × Contains ts u × (path : List Step) × (path_from l u t a ≡ Some path)
covered_tag l [] t a h = absurd (false≢true h)
covered_tag l (u ∷ us) t a h = by_cases (λ k. covered_tag l us t a k) (path_from l u t a) refl h
  where
    Found : List Tag → Type 0
    Found ts = (v : Tag) × Contains ts v × (path : List Step) × (path_from l v t a ≡ Some path)

    later : Found us → Found (u ∷ us)
    later (v, c, path, e) = (v, contains_later u us v c, path, e)

    by_cases : (is_covered l us t a ≡ true → Found us) → (o : Option (List Step)) → path_from l u t a ≡ o → (is_some o || is_covered l us t a) ≡ true → Found (u ∷ us)
    by_cases rest (Some path) e k = (u, contains_first u us, path, e)
    by_cases rest None e k = later (rest k)

pub tag_covers : (l : Layout) (ts : List Tag) (t : CType) (a : ℕ) (u : Tag) (path : List Step) → Contains ts u → path_from l u t a ≡ Some path → is_covered l ts t a ≡ true
tag_covers l [] t a u path c e = absurd (contains_nothing u c)
tag_covers l (v ∷ vs) t a u path c e = by_cases (λ d. tag_covers l vs t a u path d e) (contains_cases v vs u c)
  where
    by_cases : (Contains vs u → is_covered l vs t a ≡ true) → (v ≡ u) ⊎ Contains vs u → is_covered l (v ∷ vs) t a ≡ true
    by_cases rest (inl same) = or_left (is_some (path_from l v t a)) (is_covered l vs t a) (ap is_some (ap (λ x. path_from l x t a) same ∙ e))
    by_cases rest (inr d) = or_right (is_some (path_from l v t a)) (is_covered l vs t a) (rest d)

pub apart_from : (l : Layout) (t : Tag) (us : List Tag) (v : Tag) → ApartFrom l t us → Contains us v → AreApart l t v
apart_from l t [] v h c = absurd (contains_nothing v c)
apart_from l t (u ∷ us) v h c = elim (contains_cases u us v c) [ inl e ↦ subst (λ x. AreApart l t x) e h.0 | inr d ↦ apart_from l t us v h.1 d ]

pub apart_at : (l : Layout) (u v : Tag) (a : ℕ) → AreApart l u v → (u.address ≤ a) × (a < u.address + size_of l u.type) → (v.address ≤ a) × (a < v.address + size_of l v.type) → ⊥
apart_at l u v a (inl h) p q = omega arith
apart_at l u v a (inr h) p q = omega arith

-- a covered root has one tag
pub one_tag : (l : Layout) (ts : List Tag) (u v : Tag) (t : CType) (a : ℕ) (p q : List Step) → IsLayout l → AreTags l ts → Contains ts u → Contains ts v → path_from l u t a ≡ Some p → path_from l v t a ≡ Some q → u ≡ v
one_tag l [] u v t a p q h tags c d e f = absurd (contains_nothing u c)
one_tag l (w ∷ ws) u v t a p q h tags c d e f = by_cases (λ x y. one_tag l ws u v t a p q h tags.2 x y e f) (contains_cases w ws u c) (contains_cases w ws v d)
  where
    root : (x : Tag) (r : List Step) → Contains (w ∷ ws) x → path_from l x t a ≡ Some r → (x.address ≤ a) × (a < x.address + size_of l x.type)
    root x r k g = root_within l h x t a r (tag_among l (w ∷ ws) x tags k) g

    clash : (x y : Tag) (r s : List Step) → w ≡ x → Contains ws y → Contains (w ∷ ws) x → Contains (w ∷ ws) y → path_from l x t a ≡ Some r → path_from l y t a ≡ Some s → ⊥
    clash x y r s same k i j g g' = apart_at l x y a (subst (λ z. AreApart l z y) same (apart_from l w ws y tags.1 k)) (root x r i g) (root y s j g')

    by_cases : (Contains ws u → Contains ws v → u ≡ v) → (w ≡ u) ⊎ Contains ws u → (w ≡ v) ⊎ Contains ws v → u ≡ v
    by_cases rest (inl x) (inl y) = sym x ∙ y
    by_cases rest (inl x) (inr y) = absurd (clash u v p q x y c d e f)
    by_cases rest (inr x) (inl y) = absurd (clash v u q p y x d c f e)
    by_cases rest (inr x) (inr y) = rest x y
