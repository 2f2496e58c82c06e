-- Reads after a write, on either heap.
use Rattle.std.proofs.Common.{◌≡◌, ℕ, ◌+◌, ◌%◌, ◌<◌, ◌≤◌, ◌⊎◌, inl, inr, true, ◌||◌, List, [], ◌∷◌, ◌++◌, Option, Some, None, is_some, Contains, refl, sym, ap, ◌∙◌, arith, mod-eq_of_lt}
use Rattle.std.proofs.lemmas.Bool.{false≢true}
use Rattle.c_values.specs.Types.{CType}
use Rattle.c_values.specs.Value.{Value}
use Rattle.c_values.specs.Layout.{Layout, IsLayout, size, shape_of, size_of, space}
use Rattle.c_values.specs.Path.{Step, Spot, spot, in_range, upd, HasShape}
use Rattle.c_values.proofs.Formed.{IsFormed}
use Rattle.c_values.proofs.Replaced.{sel_upd}
use Rattle.c_memory.specs.Memory.{Tag, load, load_at, store_at}
use Rattle.c_memory.specs.Tags.{IsTag, AreTags, path_from, is_covered}
use Rattle.c_memory.specs.TypedHeap.{TypedHeap, tags_of, cell_part, read_cells, with_cell_part, write_cells}
use Rattle.c_memory.specs.Heap.{CellsFit}
use Rattle.c_memory.proofs.Covered.{pointer_parts, covered_tag, tag_among}
use Rattle.c_memory.proofs.Frame.{store_frame, spares}
use Rattle.c_memory.proofs.RoundTrip.{stored_back}
use Rattle.c_memory.proofs.Views.{IsPlaceIn, place_in, address, load_here, store_here}

module _ (l : Layout) (h : IsLayout l) (t : CType) (a : ℕ) (path : List Step) (q : Spot) (range : in_range (shape_of l t) path ≡ true) (at_end : spot (shape_of l t) path ≡ Some q) where
  -- all of the place is in the space
  pub record IsInSpace : Type 0 where
    pub formed : IsFormed q.shape
    pub fits : address l h t a path q range at_end + size q.shape ≤ space l

  pub covered_in_space : (ts : List Tag) → AreTags l ts → is_covered l ts t a ≡ true → IsInSpace
  covered_in_space ts tags c =
      let w = covered_tag l ts t a c in
      let i = tag_among l ts w.0 tags w.1 in
      let p = place_in l h t a path q range at_end w.0 w.2 i w.3 in
      let fits : w.0.address + size_of l w.0.type ≤ space l = (pointer_parts l w.0.type w.0.address i.placed).fits in
      record { formed = p.within.formed; fits = omega (arith, p.within.ends, p.plain) }

  pub bytes_read_back : (v : Value) (bytes : ℕ → ℕ) → HasShape q.shape v → IsInSpace → load_at (space l) (store_at (space l) (shape_of l t) a path v bytes) (shape_of l t) a path ≡ v
  bytes_read_back v bytes shaped s =
      let at = address l h t a path q range at_end in
      load_here l h t a path q range at_end (store_at (space l) (shape_of l t) a path v bytes)
      ∙ ap (λ bs. load (space l) bs q.shape at) (store_here l h t a path q range at_end v bytes)
      ∙ stored_back (space l) q.shape at v bytes s.formed (omega (arith, s.fits)) shaped

  pub cells_read_back : (v : Value) (cells : TypedHeap) → AreTags l (tags_of cells) → CellsFit l cells → is_covered l (tags_of cells) t a ≡ true → read_cells l (write_cells l cells t a path v) t a path ≡ v
  cells_read_back v [] tags fit c = absurd (false≢true c)
  cells_read_back v (c ∷ cs) tags fit cover = by_cases (λ k. cells_read_back v cs tags.2 fit.1 k) (path_from l c.tag t a) refl cover
    where
      written : TypedHeap
      written = write_cells l cs t a path v

      by_cases : (is_covered l (tags_of cs) t a ≡ true → read_cells l written t a path ≡ v) → (o : Option (List Step)) → path_from l c.tag t a ≡ o →
          (is_some o || is_covered l (tags_of cs) t a) ≡ true → read_cells l (with_cell_part c o path v cs written) t a path ≡ v
      by_cases rest (Some root) e k =
          let p = place_in l h t a path q range at_end c.tag root tags.0 e in
          ap (λ o. cell_part (record { tag = c.tag; value = upd c.value (root ++ path) v }) o path (read_cells l cs t a path)) e ∙ sel_upd c.value v fit.0 p.leads
      by_cases rest None e k = ap (λ o. cell_part c o path (read_cells l written t a path)) e ∙ rest k

  -- a store at a covered root changes no byte outside of the objects
  pub store_in_objects : (v : Value) (bytes : ℕ → ℕ) (ts : List Tag) (x : ℕ) → AreTags l ts → is_covered l ts t a ≡ true →
      ((u : Tag) → Contains ts u → (x < u.address) ⊎ (u.address + size_of l u.type ≤ x)) → store_at (space l) (shape_of l t) a path v bytes x ≡ bytes x
  store_in_objects v bytes ts x tags c outside =
      ap (λ bs. bs x) (store_here l h t a path q range at_end v bytes)
      ∙ store_frame (space l) x q.shape at v bytes (spares (space l) x q.shape at p.within.formed (λ i lt e. clash i lt e (outside w.0 w.1)))
    where
      at : ℕ
      at = address l h t a path q range at_end

      w : (u : Tag) × Contains ts u × (root : List Step) × (path_from l u t a ≡ Some root)
      w = covered_tag l ts t a c

      is : IsTag l w.0
      is = tag_among l ts w.0 tags w.1

      p : IsPlaceIn l h t a path q range at_end w.0 w.2
      p = place_in l h t a path q range at_end w.0 w.2 is w.3

      fits : w.0.address + size_of l w.0.type ≤ space l
      fits = (pointer_parts l w.0.type w.0.address is.placed).fits

      clash : (i : ℕ) → i < size q.shape → (at + i) % space l ≡ x → (x < w.0.address) ⊎ (w.0.address + size_of l w.0.type ≤ x) → ⊥
      clash i lt e o =
          let plain : (at + i) % space l ≡ at + i = mod-eq_of_lt (omega (arith, fits, p.within.ends, p.plain, lt)) in
          outside_clash (at + i) x w.0.address p.offset (size_of l w.0.type) i (sym plain ∙ e) (ap (λ b. b + i) p.plain) (omega (arith, p.within.ends, lt)) o
        where
          outside_clash : (y x' a' d n i' : ℕ) → y ≡ x' → y ≡ a' + d + i' → d + i' < n → (x' < a') ⊎ (a' + n ≤ x') → ⊥
          outside_clash y x' a' d n i' same near lt' (inl k) = omega arith
          outside_clash y x' a' d n i' same near lt' (inr k) = omega arith
