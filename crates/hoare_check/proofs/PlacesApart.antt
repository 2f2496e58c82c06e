-- Places whose roots are covered have no byte in common, if their paths in one tag's object would be split. Paths of roots are split
-- where neither type is in the other, and where they are two roots of one type.
use Rattle.std.proofs.Common.{◌≡◌, ◌≢◌, ℕ, ◌+◌, ◌⊎◌, inl, inr, true, List, ◌++◌, slice_get, Some, Contains, refl, sym, ap, ◌∙◌, subst, arith}
use Rattle.std.proofs.lemmas.Bool.{false≢true}
use Rattle.std.proofs.lemmas.Option.{slice_get-get_or}
use Rattle.c_values.specs.Types.{CType}
use Rattle.c_values.specs.Layout.{Layout, IsLayout, Shape, Incomplete, Scalar, Record, Row, size, type_of, shape_of}
use Rattle.c_values.specs.Path.{Step, Spot, spot, in_range}
use Rattle.c_values.proofs.Formed.{IsFormed}
use Rattle.c_values.proofs.Geometry.{AreSplit, AreApart, leads_apart}
use Rattle.c_values.proofs.Laid.{structs_of, shape_type}
use Rattle.c_values.proofs.Leads.{Leads}
use Rattle.c_values.proofs.Parts.{formed_complete}
use Rattle.c_memory.specs.Memory.{Tag}
use Rattle.c_memory.specs.Tags.{is_root_type, IsTag, AreTags, IsPart, scalar, struct, path_from, is_covered}
use Rattle.c_memory.specs.Tags as T
use Rattle.c_memory.proofs.Covered.{root_of, tag_good, covered_tag, tag_among}
use Rattle.c_memory.proofs.Neighbours.{same_or_apart}
use Rattle.c_memory.proofs.Roots.{part_reached}
use Rattle.c_memory.proofs.Views.{IsPlaceIn, place_in, address}
use Rattle.assertion_walks.specs.Written.{AreRelated}
use Rattle.hoare_check.proofs.PathsSplit.{goes_on, part_within, not_in_itself}

-- a shape of a root type is a part of itself
own_part : (s : Shape) (t : CType) → type_of s ≡ t → is_root_type t ≡ true → IsPart s 0 t
own_part Incomplete t e r = absurd (false≢true (ap is_root_type e ∙ r))
own_part (Scalar u width) t e r = subst (λ v. IsPart (Scalar u width) 0 v) e scalar
own_part (Record x n align fs) t e r = subst (λ v. IsPart (Record x n align fs) 0 v) e struct
own_part (Row s n) t e r = absurd (false≢true (ap is_root_type e ∙ r))

module _ (l : Layout) (h : IsLayout l) where
  -- a root that a tag covers, of which another one is a part
  longer : (t u : CType) (a b : ℕ) (c : Tag) (root root' : List Step) → IsTag l c → path_from l c t a ≡ Some root → path_from l c u b ≡ Some root' →
      (zs : List Step) → root ++ zs ≡ root' → (f : ℕ) × Leads (shape_of l t) zs f (shape_of l u) × (b ≡ a + f)
  longer t u a b c root root' tag e e' zs k =
      let r = root_of l h c t a root tag e in
      let r' = root_of l h c u b root' tag e' in
      let w = goes_on r.leads zs (subst (λ ps. Leads (shape_of l c.type) ps r'.at (shape_of l u)) (sym k) r'.leads) in
      let at : c.address + r.at ≡ a = r.address in
      let at' : c.address + r'.at ≡ b = r'.address in
      let on : r'.at ≡ r.at + w.0 = w.2 in
      (w.0, w.1, omega arith)

  own : (t : CType) (a : ℕ) (c : Tag) (root : List Step) → IsTag l c → path_from l c t a ≡ Some root → IsPart (shape_of l t) 0 t
  own t a c root tag e =
      let r = root_of l h c t a root tag e in
      own_part (shape_of l t) t (shape_type l h t (formed_complete (shape_of l t) r.within.formed))
      (part_reached l.target (structs_of l) (tag_good l h c tag).laid r.part).root

  pub unrelated_split : (t u : CType) (a b : ℕ) (c : Tag) (root root' : List Step) → IsTag l c → path_from l c t a ≡ Some root →
      path_from l c u b ≡ Some root' → (AreRelated l t u → ⊥) → AreSplit root root'
  unrelated_split t u a b c root root' tag e e' none = record {
    left = λ zs k. let w = longer t u a b c root root' tag e e' zs k in none (w.0, inl (part_within w.1 (own u b c root' tag e')));
    right = λ zs k. let w = longer u t b a c root' root tag e' e zs k in none (w.0, inr (part_within w.1 (own t a c root tag e)));
  }

  no_further : (a b f : ℕ) → f ≡ 0 → b ≡ a + f → b ≡ a
  no_further a b f none on = omega arith

  pub roots_split : (t : CType) (a b : ℕ) (c : Tag) (root root' : List Step) → IsTag l c → path_from l c t a ≡ Some root → path_from l c t b ≡ Some root' →
      a ≢ b → AreSplit root root'
  roots_split t a b c root root' tag e e' differ = record {
    left = λ zs k. let w = longer t t a b c root root' tag e e' zs k in differ (sym (no_further a b w.0 (not_in_itself w.1 refl) w.2));
    right = λ zs k. let w = longer t t b a c root' root tag e' e zs k in differ (no_further b a w.0 (not_in_itself w.1 refl) w.2);
  }

  -- the tag by its position
  at_position : (ts : List Tag) (c : Tag) (k : Contains ts c) → slice_get ts k.0 ≡ Some c
  at_position ts c k = slice_get-get_or ts k.0 c k.1 ∙ ap Some k.2

  -- two tags are one, or apart
  pub two_tags : (ts : List Tag) (c d : Tag) → AreTags l ts → Contains ts c → Contains ts d → (c ≡ d) ⊎ T.AreApart l c d
  two_tags ts c d tags k k' = same_or_apart l ts k.0 k'.0 c d tags (at_position ts c k) (at_position ts d k')

  -- two places
  module _ (t u : CType) (a b : ℕ) (path other : List Step) (q r : Spot)
      (range : in_range (shape_of l t) path ≡ true) (at_end : spot (shape_of l t) path ≡ Some q) (range' : in_range (shape_of l u) other ≡ true)
      (at_end' : spot (shape_of l u) other ≡ Some r) where
    abbrev place : ℕ
    place = address l h t a path q range at_end

    abbrev place' : ℕ
    place' = address l h u b other r range' at_end'

    -- in the objects of two tags
    pub in_two : (c d : Tag) (root root' : List Step) → T.AreApart l c d → IsPlaceIn l h t a path q range at_end c root →
        IsPlaceIn l h u b other r range' at_end' d root' → AreApart place (size q.shape) place' (size r.shape)
    in_two c d root root' k p p' = by_order k
      where
        first : c.address + p.offset ≡ place
        first = sym p.plain

        second : d.address + p'.offset ≡ place'
        second = sym p'.plain

        by_order : T.AreApart l c d → AreApart place (size q.shape) place' (size r.shape)
        by_order (inl o) = inl (omega (arith, first, second, p.within.ends, p'.within.ends))
        by_order (inr o) = inr (omega (arith, first, second, p.within.ends, p'.within.ends))

    -- in the object of one
    in_one : (c : Tag) (root root' : List Step) → IsFormed (shape_of l c.type) → IsPlaceIn l h t a path q range at_end c root →
        IsPlaceIn l h u b other r range' at_end' c root' →
        AreSplit (root ++ path) (root' ++ other) → AreApart place (size q.shape) place' (size r.shape)
    in_one c root root' formed p p' split = by_order (leads_apart formed p.leads p'.leads split)
      where
        first : c.address + p.offset ≡ place
        first = sym p.plain

        second : c.address + p'.offset ≡ place'
        second = sym p'.plain

        by_order : AreApart p.offset (size q.shape) p'.offset (size r.shape) → AreApart place (size q.shape) place' (size r.shape)
        by_order (inl o) = inl (omega (arith, first, second))
        by_order (inr o) = inr (omega (arith, first, second))

    pub places_apart : (ts : List Tag) → AreTags l ts → is_covered l ts t a ≡ true → is_covered l ts u b ≡ true →
        ((c : Tag) (root root' : List Step) → IsTag l c → path_from l c t a ≡ Some root → path_from l c u b ≡ Some root' →
        AreSplit (root ++ path) (root' ++ other)) →
        AreApart place (size q.shape) place' (size r.shape)
    places_apart ts tags k k' split = by_tags (two_tags ts w.0 w'.0 tags w.1 w'.1)
      where
        w : (c : Tag) × Contains ts c × (root : List Step) × (path_from l c t a ≡ Some root)
        w = covered_tag l ts t a k

        w' : (c : Tag) × Contains ts c × (root : List Step) × (path_from l c u b ≡ Some root)
        w' = covered_tag l ts u b k'

        tag : IsTag l w.0
        tag = tag_among l ts w.0 tags w.1

        tag' : IsTag l w'.0
        tag' = tag_among l ts w'.0 tags w'.1

        by_tags : (w.0 ≡ w'.0) ⊎ T.AreApart l w.0 w'.0 → AreApart place (size q.shape) place' (size r.shape)
        by_tags (inl same) =
            let found : path_from l w.0 u b ≡ Some w'.2 = ap (λ c. path_from l c u b) same ∙ w'.3 in
            in_one w.0 w.2 w'.2 (tag_good l h w.0 tag).formed (place_in l h t a path q range at_end w.0 w.2 tag w.3)
            (place_in l h u b other r range' at_end' w.0 w'.2 tag found) (split w.0 w.2 w'.2 tag w.3 found)
        by_tags (inr apart) =
            in_two w.0 w'.0 w.2 w'.2 apart (place_in l h t a path q range at_end w.0 w.2 tag w.3) (place_in l h u b other r range' at_end' w'.0 w'.2 tag' w'.3)
