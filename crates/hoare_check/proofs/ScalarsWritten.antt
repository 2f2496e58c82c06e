-- Scalars of typed heaps after a write of a scalar: the one at the place that was written reads as what was written, and another one
-- as before.
use Rattle.std.proofs.Common.{◌≡◌, ℕ, ◌+◌, ◌<◌, inl, inr, true, ◌||◌, List, [], ◌∷◌, ◌++◌, Option, Some, None, is_some, refl, sym, ap, ap₂, ◌∙◌, subst, arith}
use Rattle.std.proofs.lemmas.Bool.{false≢true}
use Rattle.c_values.specs.Types.{CType}
use Rattle.c_values.specs.Value.{Value}
use Rattle.c_values.specs.Layout.{Layout, IsLayout, Scalar, size, type_of, shape_of}
use Rattle.c_values.specs.Path.{Step, Spot, spot, in_range, sel}
use Rattle.c_values.proofs.Formed.{size_some}
use Rattle.c_values.proofs.Geometry.{AreSplit, AreApart}
use Rattle.c_values.proofs.Laid.{structs_of}
use Rattle.c_values.proofs.Leads.{Leads}
use Rattle.c_values.proofs.Options.{some_is}
use Rattle.c_memory.specs.Memory.{Tag}
use Rattle.c_memory.specs.Tags.{is_root_type, IsTag, AreTags, ApartFrom, root_path, path_from, is_covered}
use Rattle.c_memory.specs.Tags as T
use Rattle.c_memory.specs.TypedHeap.{TypedHeap, tags_of, cell_part, read_cells, write_cells}
use Rattle.c_memory.specs.Heap.{CellsFit}
use Rattle.c_memory.proofs.Cells.{tags_written}
use Rattle.c_memory.proofs.Covered.{tag_good, covered_tag, tag_among, apart_from}
use Rattle.c_memory.proofs.Elsewhere.{cells_elsewhere}
use Rattle.c_memory.proofs.OnePath.{leads_found}
use Rattle.c_memory.proofs.Places.{cells_read_back}
use Rattle.c_memory.proofs.Views.{place_in, address}
use Rattle.hoare_check.proofs.PathsSplit.{goes_on, scalar_ends}
use Rattle.hoare_check.proofs.PlacesApart.{in_two, places_apart}

-- where no byte is common, not even the first is
not_first : (x y m n : ℕ) → 0 < m → 0 < n → AreApart x m y n → x ≡ y → ⊥
not_first x y m n some some' (inl h) e = omega arith
not_first x y m n some some' (inr h) e = omega arith

turned : (l : Layout) (c d : Tag) → T.AreApart l c d → T.AreApart l d c
turned l c d (inl h) = inr h
turned l c d (inr h) = inl h

module _ (l : Layout) (h : IsLayout l) (t u : CType) (a b : ℕ) (path other : List Step) (q r : Spot)
    (range : in_range (shape_of l t) path ≡ true) (at_end : spot (shape_of l t) path ≡ Some q) (range' : in_range (shape_of l u) other ≡ true)
    (at_end' : spot (shape_of l u) other ≡ Some r) where
  abbrev pub place : ℕ
  place = address l h t a path q range at_end

  abbrev pub place' : ℕ
  place' = address l h u b other r range' at_end'

  -- one place of a root type
  module _ (same : place ≡ place') (shapes : q.shape ≡ r.shape) (root_type : is_root_type (type_of q.shape) ≡ true) where
    one_path : (c : Tag) (root root' : List Step) → IsTag l c → path_from l c t a ≡ Some root → path_from l c u b ≡ Some root' → root ++ path ≡ root' ++ other
    one_path c root root' tag e e' =
        let p = place_in l h t a path q range at_end c root tag e in
        let p' = place_in l h u b other r range' at_end' c root' tag e' in
        let g = tag_good l h c tag in
        let x : place ≡ c.address + p.offset = p.plain in
        let y : place' ≡ c.address + p'.offset = p'.plain in
        let offsets : p.offset ≡ p'.offset = omega (arith, same, x, y) in
        some_is
        (sym (leads_found l.target (structs_of l) g.formed g.laid p.leads root_type)
        ∙ ap₂ (λ d s. root_path (shape_of l c.type) (type_of s) d) offsets shapes
        ∙ leads_found l.target (structs_of l) g.formed g.laid p'.leads (ap (λ s. is_root_type (type_of s)) (sym shapes) ∙ root_type))

    not_two : (c d : Tag) (root root' : List Step) → IsTag l c → IsTag l d → T.AreApart l c d → path_from l c t a ≡ Some root →
        path_from l d u b ≡ Some root' → ⊥
    not_two c d root root' tag tag' apart e e' =
        let p = place_in l h t a path q range at_end c root tag e in
        let p' = place_in l h u b other r range' at_end' d root' tag' e' in
        not_first place place' (size q.shape) (size r.shape) (size_some q.shape p.within.formed) (size_some r.shape p'.within.formed)
        (in_two l h t u a b path other q r range at_end range' at_end' c d root root' apart p p') same

    -- reads of it give the same
    reads_agree : (cells : TypedHeap) → AreTags l (tags_of cells) → is_covered l (tags_of cells) t a ≡ true → is_covered l (tags_of cells) u b ≡ true →
        read_cells l cells u b other ≡ read_cells l cells t a path
    reads_agree [] tags k k' = absurd (false≢true k)
    reads_agree (c ∷ cs) tags k k' = by_paths (λ i i'. reads_agree cs tags.2 i i') (path_from l c.tag t a) refl k (path_from l c.tag u b) refl k'
      where
        ts : List Tag
        ts = tags_of cs

        by_paths : (is_covered l ts t a ≡ true → is_covered l ts u b ≡ true → read_cells l cs u b other ≡ read_cells l cs t a path) →
            (o : Option (List Step)) → path_from l c.tag t a ≡ o → (is_some o || is_covered l ts t a) ≡ true →
            (o' : Option (List Step)) → path_from l c.tag u b ≡ o' → (is_some o' || is_covered l ts u b) ≡ true →
            cell_part c o' other (read_cells l cs u b other) ≡ cell_part c o path (read_cells l cs t a path)
        by_paths rest None e i None e' i' = rest i i'
        by_paths rest (Some root) e i (Some root') e' i' = ap (λ ps. sel c.value ps) (sym (one_path c.tag root root' tags.0 e e'))
        by_paths rest (Some root) e i None e' i' =
            let w = covered_tag l ts u b i' in absurd
            (not_two c.tag w.0 root w.2 tags.0 (tag_among l ts w.0 tags.2 w.1) (apart_from l c.tag ts w.0 tags.1 w.1) e w.3)
        by_paths rest None e i (Some root') e' i' =
            let w = covered_tag l ts t a i in
            absurd (not_two w.0 c.tag w.2 root' (tag_among l ts w.0 tags.2 w.1) tags.0 (turned l c.tag w.0 (apart_from l c.tag ts w.0 tags.1 w.1)) w.3 e')

    pub same_scalar_read : (v : Value) (cells : TypedHeap) → AreTags l (tags_of cells) → CellsFit l cells → is_covered l (tags_of cells) t a ≡ true →
        is_covered l (tags_of cells) u b ≡ true →
        read_cells l (write_cells l cells t a path v) u b other ≡ v
    same_scalar_read v cells tags fit k k' =
        let after = write_cells l cells t a path v in
        let kept = sym (tags_written l cells t a path v) in
        reads_agree after (subst (λ ts. AreTags l ts) kept tags) (subst (λ ts. is_covered l ts t a ≡ true) kept k)
        (subst (λ ts. is_covered l ts u b ≡ true) kept k')
        ∙ cells_read_back l h t a path q range at_end v cells tags fit k

  -- the scalar that is read isn't the one that is written
  pub other_scalar_kept : (v : Value) (one two : CType) (m n : ℕ) → q.shape ≡ Scalar one m → r.shape ≡ Scalar two n →
      (place ≡ place' → q.shape ≡ r.shape → ⊥) → (cells : TypedHeap) →
      AreTags l (tags_of cells) → CellsFit l cells → is_covered l (tags_of cells) t a ≡ true → is_covered l (tags_of cells) u b ≡ true →
      read_cells l (write_cells l cells t a path v) u b other ≡ read_cells l cells u b other
  other_scalar_kept v one two m n is is' differ cells tags fit k k' =
      cells_elsewhere l h t u a b path other q r range at_end range' at_end'
      (places_apart l h t u a b path other q r range at_end range' at_end' (tags_of cells) tags k k' split) v cells tags fit
    where
      split : (c : Tag) (root root' : List Step) → IsTag l c → path_from l c t a ≡ Some root → path_from l c u b ≡ Some root' →
          AreSplit (root ++ path) (root' ++ other)
      split c root root' tag e e' =
          let p = place_in l h t a path q range at_end c root tag e in
          let p' = place_in l h u b other r range' at_end' c root' tag e' in
          let x : place ≡ c.address + p.offset = p.plain in
          let y : place' ≡ c.address + p'.offset = p'.plain in
          record {
            left = λ zs k.
                let w = goes_on p.leads zs (subst (λ ps. Leads (shape_of l c.type) ps p'.offset r.shape) (sym k) p'.leads) in
                let end = scalar_ends (subst (λ s. Leads s zs w.0 r.shape) is w.1) in
                let on : p'.offset ≡ p.offset + w.0 = w.2 in
                let none : w.0 ≡ 0 = end.0 in
                differ (omega (arith, x, y)) (is ∙ end.1);
            right = λ zs k.
                let w = goes_on p'.leads zs (subst (λ ps. Leads (shape_of l c.type) ps p.offset q.shape) (sym k) p.leads) in
                let end = scalar_ends (subst (λ s. Leads s zs w.0 q.shape) is' w.1) in
                let on : p.offset ≡ p'.offset + w.0 = w.2 in
                let none : w.0 ≡ 0 = end.0 in
                differ (omega (arith, x, y)) (sym (is' ∙ end.1));
          }
