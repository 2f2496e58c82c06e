-- A read gives what it gave before a write to a place apart, on either heap.
use Rattle.std.proofs.Common.{◌≡◌, ℕ, ◌+◌, ◌%◌, ◌<◌, inl, inr, true, List, [], ◌∷◌, ◌++◌, Option, Some, None, refl, sym, ap, ◌∙◌, arith}
use Rattle.c_values.specs.Types.{CType}
use Rattle.c_values.specs.Value.{Value}
use Rattle.c_values.specs.Layout.{Layout, IsLayout, size, shape_of, space}
use Rattle.c_values.specs.Path.{Step, Spot, spot, in_range, upd}
use Rattle.c_values.proofs.Geometry.{AreApart}
use Rattle.c_values.proofs.Replaced.{sel_upd_apart}
use Rattle.c_memory.specs.Memory.{load, load_at, store, store_at}
use Rattle.c_memory.specs.Tags.{AreTags, path_from}
use Rattle.c_memory.specs.TypedHeap.{Cell, TypedHeap, tags_of, cell_part, read_cells, with_cell_part, write_cells}
use Rattle.c_memory.specs.Heap.{CellsFit}
use Rattle.c_memory.proofs.Modulus.{apart_plain}
use Rattle.c_memory.proofs.Covered.{tag_good}
use Rattle.c_memory.proofs.Frame.{store_frame, spares}
use Rattle.c_memory.proofs.RoundTrip.{load_same}
use Rattle.c_memory.proofs.Views.{place_in, address, load_here, store_here}
use Rattle.c_memory.proofs.Places.{IsInSpace}

module _ (l : Layout) (h : IsLayout l) (t u : CType) (a b : ℕ) (path other : List Step) (q r : Spot)
    (range : in_range (shape_of l t) path ≡ true) (at_end : spot (shape_of l t) path ≡ Some q) (range' : in_range (shape_of l u) other ≡ true) (at_end' : spot (shape_of l u) other ≡ Some r)
    (apart : AreApart (address l h t a path q range at_end) (size q.shape) (address l h u b other r range' at_end') (size r.shape)) where
  abbrev written : ℕ
  written = address l h t a path q range at_end

  abbrev read : ℕ
  read = address l h u b other r range' at_end'

  pub bytes_elsewhere : (v : Value) (bytes : ℕ → ℕ) → IsInSpace l h t a path q range at_end → IsInSpace l h u b other r range' at_end' →
      load_at (space l) (store_at (space l) (shape_of l t) a path v bytes) (shape_of l u) b other ≡ load_at (space l) bytes (shape_of l u) b other
  bytes_elsewhere v bytes s s' =
      load_here l h u b other r range' at_end' (store_at (space l) (shape_of l t) a path v bytes)
      ∙ ap (λ bs. load (space l) bs r.shape read) (store_here l h t a path q range at_end v bytes)
      ∙ load_same (space l) (store (space l) q.shape written v bytes) bytes r.shape read s'.formed
      (λ j less. store_frame (space l) ((read + j) % space l) q.shape written v bytes (spares (space l) ((read + j) % space l) q.shape written s.formed (λ i lt e. clash i j lt less apart e)))
      ∙ sym (load_here l h u b other r range' at_end' bytes)
    where
      clash : (i j : ℕ) → i < size q.shape → j < size r.shape → AreApart written (size q.shape) read (size r.shape) → (written + i) % space l ≡ (read + j) % space l → ⊥
      clash i j lt less (inl k) e = apart_plain (space l) (written + i) (read + j) (omega arith) (omega (arith, s'.fits)) e
      clash i j lt less (inr k) e = apart_plain (space l) (read + j) (written + i) (omega arith) (omega (arith, s.fits)) (sym e)

  apart_within : (c d m e n x y : ℕ) → x ≡ c + d → y ≡ c + e → AreApart x m y n → AreApart d m e n
  apart_within c d m e n x y p p' (inl k) = inl (omega arith)
  apart_within c d m e n x y p p' (inr k) = inr (omega arith)

  pub cells_elsewhere : (v : Value) (cells : TypedHeap) → AreTags l (tags_of cells) → CellsFit l cells → read_cells l (write_cells l cells t a path v) u b other ≡ read_cells l cells u b other
  cells_elsewhere v [] tags fit = refl
  cells_elsewhere v (c ∷ cs) tags fit = by_cases (cells_elsewhere v cs tags.2 fit.1) (path_from l c.tag t a) refl (path_from l c.tag u b) refl
    where
      after : TypedHeap
      after = write_cells l cs t a path v

      changed : List Step → Cell
      changed root = record { tag = c.tag; value = upd c.value (root ++ path) v }

      by_cases : read_cells l after u b other ≡ read_cells l cs u b other → (o : Option (List Step)) → path_from l c.tag t a ≡ o → (o' : Option (List Step)) → path_from l c.tag u b ≡ o' →
          read_cells l (with_cell_part c o path v cs after) u b other ≡ read_cells l (c ∷ cs) u b other
      by_cases rest None e o' e' = ap (λ w. cell_part c (path_from l c.tag u b) other w) rest
      by_cases rest (Some root) e None e' =
          ap (λ o. cell_part (changed root) o other (read_cells l cs u b other)) e' ∙ sym (ap (λ o. cell_part c o other (read_cells l cs u b other)) e')
      by_cases rest (Some root) e (Some root') e' =
          let p = place_in l h t a path q range at_end c.tag root tags.0 e in
          let p' = place_in l h u b other r range' at_end' c.tag root' tags.0 e' in
          ap (λ o. cell_part (changed root) o other (read_cells l cs u b other)) e'
          ∙ sel_upd_apart c.value v (tag_good l h c.tag tags.0).formed fit.0 p.leads p'.leads
          (apart_within c.tag.address p.offset (size q.shape) p'.offset (size r.shape) written read p.plain p'.plain apart)
          ∙ sym (ap (λ o. cell_part c o other (read_cells l cs u b other)) e')
