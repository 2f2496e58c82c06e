-- A write of a value of the place's shape leaves a heap that can be, at any index, in range or not.
use Rattle.std.proofs.Common.{◌≡◌, ℕ, ◌*◌, ◌-◌, true, List, [], ◌∷◌, ◌++◌, Option, Some, None, ℤ, pos, refl, sym, ap, ◌∙◌, subst}
use Rattle.std.specs.Prelude.{nat_le}
use Rattle.c_values.specs.Types.{CType}
use Rattle.c_values.specs.Value.{Value}
use Rattle.c_values.specs.Layout.{Layout, IsLayout, Shape, Fields, size, shape_of, is_object, space}
use Rattle.c_values.specs.Path.{Step, Spot, spot, member_spot, and_then_spot, further, HasShape}
use Rattle.c_values.proofs.Leads.{IsNth, first, next, Leads, ends, by_member, by_element, IsSpot}
use Rattle.c_memory.specs.Memory.{AreBytes, store_spot, address_at}
use Rattle.c_memory.specs.Tags.{AreTags, path_from, root_path}
use Rattle.c_memory.specs.TypedHeap.{TypedHeap, tags_of, with_cell_part, write_cells}
use Rattle.c_memory.specs.Heap.{Heap, OnBytes, OnTypes, write_heap, IsHeap, CellsFit}
use Rattle.c_memory.proofs.Loaded.{store_bytes}
use Rattle.c_memory.proofs.Cells.{tags_written}
use Rattle.c_memory.proofs.Roots.{found_leads}
use Rattle.expression_lang.proofs.Sorting.{object_whole}
use Rattle.expression_lang.proofs.Good.{upd_put, path_when}

further_there : (z : ℤ) (o : Option Spot) (q : Spot) → o ≡ Some q → (f : Spot) × (further z o ≡ Some f) × (f.shape ≡ q.shape)
further_there z None q e = absurd cc
further_there z (Some r) q e = (_, refl, ap (λ (v : Spot). v.shape) (let same : r ≡ q = cc in same))

nth_spot : {fs : Fields} {k at : ℕ} {s : Shape} → IsNth fs k at s → IsSpot (member_spot fs k) at s
nth_spot first = refl
nth_spot (next h) = nth_spot h

-- the place at the end of two paths
spot_after : {s r : Shape} {root : List Step} {d : ℕ} → Leads s root d r → (ps : List Step) (q : Spot) → spot r ps ≡ Some q → (f : Spot) × (spot s (root ++ ps) ≡ Some f) × (f.shape ≡ q.shape)
spot_after ends ps q e = (q, e, refl)
spot_after (by_member {k} {at} {fs} {s} {ps = root} m way) ps q e =
    let f = spot_after way ps q e in
    let g = further_there (pos at) (spot s (root ++ ps)) f.0 f.1 in
    (g.0, subst (λ o. and_then_spot o (λ r. further r.offset (spot r.shape (root ++ ps))) ≡ Some g.0) (sym (nth_spot m)) g.1, g.2 ∙ f.2)
spot_after (by_element {e = s} {i} {ps = root} m way) ps q e =
    let f = spot_after way ps q e in
    let g = further_there (pos (i * size s)) (spot s (root ++ ps)) f.0 f.1 in
    (g.0, g.1, g.2 ∙ f.2)

module _ (l : Layout) (h : IsLayout l) (t : CType) (object : is_object l t ≡ true) (a : ℕ) (ps : List Step) (q : Spot) (leads : spot (shape_of l t) ps ≡ Some q) (v : Value) (shaped : HasShape q.shape v) where
  cells_written : (cells : TypedHeap) → AreTags l (tags_of cells) → CellsFit l cells → CellsFit l (write_cells l cells t a ps v)
  cells_written [] tags fit = tt
  cells_written (c ∷ cs) tags fit = by_path (path_from l c.tag t a) refl (cells_written cs tags.2 fit.1)
    where
      by_path : (o : Option (List Step)) → path_from l c.tag t a ≡ o → CellsFit l (write_cells l cs t a ps v) → CellsFit l (with_cell_part c o ps v cs (write_cells l cs t a ps v))
      by_path None e rest = (fit.0, rest)
      by_path (Some root) e rest =
          let found = path_when (nat_le c.tag.address a) (root_path (shape_of l c.tag.type) t (a - c.tag.address)) root e in
          let way = spot_after (found_leads l c.tag.type t (a - c.tag.address) root h (object_whole l c.tag.type tags.0.object) found) ps q leads in
          (upd_put (root ++ ps) v (shape_of l c.tag.type) c.value way.0 fit.0 way.1 (subst (λ s. HasShape s v) (sym way.2) shaped), fit.1)

  pub heap_written : (heap : Heap) → IsHeap l heap → IsHeap l (write_heap l heap t a ps v)
  heap_written (OnBytes m) k = record {
    bytes = subst (λ o. AreBytes (store_spot (space l) a o v m.bytes)) (sym leads) (store_bytes (space l) q.shape (address_at (space l) a q.offset) v m.bytes k.bytes);
    tags = k.tags;
  }
  heap_written (OnTypes cells) k = (subst (λ ts. AreTags l ts) (sym (tags_written l cells t a ps v)) k.0, cells_written cells k.0 k.1)
