-- Reads and writes at any index, in range or not: what is read is of the place's shape, and heaps stay what they are.
use Rattle.std.proofs.Common.{◌≡◌, ℕ, zero, suc, ◌+◌, ◌^◌, ◌<◌, nat_lt, true, List, [], ◌∷◌, ◌++◌, Option, Some, None, unwrap_or, ℤ, pos, ◌*ℤ◌, refl, sym, ap, subst, arith}
use Rattle.std.proofs.lemmas.Bool.{and_parts}
use Rattle.std.proofs.lemmas.Nat.{pow_pos, mod_below}
use Rattle.c_values.specs.Types.{CType}
use Rattle.c_values.specs.Value.{Value, Values, Bits, Number, Truth, Parts, no_values, more, count, part, with_part}
use Rattle.c_values.specs.Layout.{Layout, IsLayout, Shape, Incomplete, Scalar, Record, Row, Fields, no_fields, field, size, shape_of, space, is_complete, are_complete}
use Rattle.c_values.specs.Path.{Step, Field, Index, Spot, spot, member_spot, step_spot, and_then_spot, further, place_of, with_changed, sel, upd, zeros, member_zeros, HasShape, AreMembers, AreElements}
use Rattle.c_values.proofs.Formed.{IsFormed, AreFormed}
use Rattle.c_values.proofs.Laid.{shape_good}
use Rattle.c_values.proofs.Parts.{formed_complete}
use Rattle.c_values.proofs.Shaped.{elements_count, element_shaped, placed_field, upd_shaped, element_replaced, copies_shaped}
use Rattle.c_memory.specs.Memory.{AreBytes, load_spot, store_spot, address_at}
use Rattle.c_memory.specs.Tags.{AreTags, path_from}
use Rattle.c_memory.specs.TypedHeap.{TypedHeap, tags_of, zeros_spot, cell_part, read_cells, with_cell_part, write_cells}
use Rattle.c_memory.specs.Heap.{Heap, OnBytes, OnTypes, CellsFit, IsHeap, read_heap, write_heap}
use Rattle.c_memory.proofs.Loaded.{load_shaped, store_bytes}
use Rattle.c_memory.proofs.Cells.{tags_written}
use Rattle.c_memory.proofs.Covered.{root_of}
use Rattle.c_values.proofs.Follow.{place_below, further_parts}
use Rattle.c_values.proofs.Options.{some_is}
use Rattle.typed_heap.proofs.Found.{place_ends, root_ends}

-- the shape at the end of a path is formed
member_formed : (align n at : ℕ) (fs : Fields) (k : ℕ) (q : Spot) → AreFormed align n at fs → member_spot fs k ≡ Some q → IsFormed q.shape
member_formed align n at no_fields k q f e = absurd cc
member_formed align n at (field o s fs) zero q f e = subst IsFormed (ap (λ r. r.shape) (some_is e)) f.first
member_formed align n at (field o s fs) (suc k) q f e = member_formed align n (o + size s) fs k q f.others e

step_formed : (s : Shape) (p : Step) (q : Spot) → IsFormed s → step_spot s p ≡ Some q → IsFormed q.shape
step_formed (Record x n align fs) (Field k) q f e = member_formed align n 0 fs k q f.members e
step_formed (Row s n) (Index i) q f e = subst IsFormed (ap (λ r. r.shape) (some_is e)) f.element
step_formed _ _ q f e = absurd cc

pub spot_formed : (s : Shape) (ps : List Step) (q : Spot) → IsFormed s → spot s ps ≡ Some q → IsFormed q.shape
spot_formed s [] q f e = subst IsFormed (ap (λ r. r.shape) (some_is e)) f
spot_formed s (p ∷ ps) q f e = by_step (λ r g i d. spot_formed r ps g i d) (step_spot s p) refl e
  where
    by_step : ((r : Shape) (g : Spot) → IsFormed r → spot r ps ≡ Some g → IsFormed g.shape) → (o : Option Spot) → step_spot s p ≡ o →
        and_then_spot o (λ r. further r.offset (spot r.shape ps)) ≡ Some q → IsFormed q.shape
    by_step rest None h k = absurd cc
    by_step rest (Some r) h k =
        let g = further_parts r.offset (spot r.shape ps) q k in
        subst IsFormed (sym g.2) (rest r.shape g.0 (step_formed s p r f h) g.1)

mutual
  zeros_shaped : (s : Shape) → is_complete s ≡ true → HasShape s (zeros s)
  zeros_shaped Incomplete h = absurd cc
  zeros_shaped (Scalar t width) h = record { has_width = refl; fits = mod_below 0 (2 ^ width) (pow_pos width) }
  zeros_shaped (Record x n align fs) h = members_shaped fs h
  zeros_shaped (Row e n) h = copies_shaped (λ w. HasShape e w) n (zeros e) (zeros_shaped e (and_parts (nat_lt 0 n) (is_complete e) h).1)

  members_shaped : (fs : Fields) → are_complete fs ≡ true → AreMembers fs (member_zeros fs)
  members_shaped no_fields h = tt
  members_shaped (field o s fs) h = let both = and_parts (is_complete s) (are_complete fs) h in (zeros_shaped s both.0, members_shaped fs both.1)

-- a part that is replaced after the end of another path
upd_append : (v : Value) (ps qs : List Step) (w : Value) → upd v (ps ++ qs) w ≡ upd v ps (upd (sel v ps) qs w)
upd_append v [] qs w = refl
upd_append (Bits b) (p ∷ ps) qs w = refl
upd_append (Number n) (p ∷ ps) qs w = refl
upd_append (Truth b) (p ∷ ps) qs w = refl
upd_append (Parts vs) (p ∷ ps) qs w = ap (λ us. Parts us) (by_place (λ u. upd_append u ps qs w) (place_of p (count vs)))
  where
    by_place : ((u : Value) → upd u (ps ++ qs) w ≡ upd u ps (upd (sel u ps) qs w)) → (o : Option ℕ) →
        with_changed vs o (λ v. upd v (ps ++ qs) w) ≡ with_changed vs o (λ v. upd v ps (upd (sel (part vs (unwrap_or o 0)) ps) qs w))
    by_place rest None = refl
    by_place rest (Some k) = ap (λ u. with_part vs k u) (rest (part vs k))

member_replaced : (fs : Fields) (vs : Values) (k : ℕ) (q : Spot) (w : Value) → AreMembers fs vs → member_spot fs k ≡ Some q → HasShape q.shape w → AreMembers fs (with_part vs k w)
member_replaced no_fields vs k q w h e new = absurd cc
member_replaced (field o s fs) no_values k q w h e new = absurd h
member_replaced (field o s fs) (more v vs) zero q w h e new = (subst (λ r. HasShape r w) (sym (ap (λ r. r.shape) (some_is e))) new, h.1)
member_replaced (field o s fs) (more v vs) (suc k) q w h e new = (h.0, member_replaced fs vs k q w h.1 e new)

member_read : (fs : Fields) (vs : Values) (k : ℕ) (q : Spot) → AreMembers fs vs → member_spot fs k ≡ Some q → (k < count vs) × HasShape q.shape (part vs k)
member_read no_fields vs k q h e = absurd cc
member_read (field o s fs) no_values k q h e = absurd h
member_read (field o s fs) (more v vs) zero q h e = (omega arith, subst (λ r. HasShape r v) (ap (λ r. r.shape) (some_is e)) h.0)
member_read (field o s fs) (more v vs) (suc k) q h e = let m = member_read fs vs k q h.1 e in (omega (arith, m.0), m.1)

-- a value with a part replaced at any index
module _ (ps : List Step) (w : Value) (rest : (s : Shape) (q : Spot) (v : Value) → HasShape s v → spot s ps ≡ Some q → HasShape q.shape w → HasShape s (upd v ps w)) where
  after_step : (z : ℤ) (s : Shape) (q : Spot) (v : Value) → HasShape s v → further z (spot s ps) ≡ Some q → HasShape q.shape w → HasShape s (upd v ps w)
  after_step z s q v h e new = let g = further_parts z (spot s ps) q e in rest s g.0 v h g.1 (subst (λ r. HasShape r w) g.2 new)

  upd_member : (fs : Fields) (vs : Values) (k : ℕ) (q : Spot) (o : Option Spot) → member_spot fs k ≡ o → AreMembers fs vs → and_then_spot o (λ r. further r.offset (spot r.shape ps)) ≡ Some q →
      HasShape q.shape w → AreMembers fs (with_changed vs (place_of (Field k) (count vs)) (λ v. upd v ps w))
  upd_member fs vs k q None e h a new = absurd cc
  upd_member fs vs k q (Some r) e h a new =
      let m = member_read fs vs k r h e in
      subst (λ p. AreMembers fs (with_changed vs p (λ v. upd v ps w))) (sym (placed_field k (count vs) m.0))
      (member_replaced fs vs k r (upd (part vs k) ps w) h e (after_step r.offset r.shape q (part vs k) m.1 a new))

  upd_element : (s : Shape) (n : ℕ) (vs : Values) (i : ℤ) (q : Spot) → AreElements (λ u. HasShape s u) n vs → further (i *ℤ pos (size s)) (spot s ps) ≡ Some q → HasShape q.shape w →
      AreElements (λ u. HasShape s u) n (with_changed vs (place_of (Index i) (count vs)) (λ v. upd v ps w))
  upd_element s n vs i q h a new = by_place (place_of (Index i) (count vs)) refl
    where
      by_place : (o : Option ℕ) → place_of (Index i) (count vs) ≡ o → AreElements (λ u. HasShape s u) n (with_changed vs o (λ v. upd v ps w))
      by_place None e = h
      by_place (Some k) e =
          let lt : k < n = let below = place_below (Index i) (count vs) k e in let many = elements_count (λ u. HasShape s u) n vs h in omega (arith, below, many) in
          element_replaced (λ u. HasShape s u) n k vs (upd (part vs k) ps w) h
          (after_step (i *ℤ pos (size s)) s q (part vs k) (element_shaped (λ u. HasShape s u) n k vs h lt) a new)

upd_any : (s : Shape) (ps : List Step) (q : Spot) (v w : Value) → HasShape s v → spot s ps ≡ Some q → HasShape q.shape w → HasShape s (upd v ps w)
upd_any s [] q v w h e new = subst (λ r. HasShape r w) (sym (ap (λ r. r.shape) (some_is e))) new
upd_any (Record x n align fs) (Field k ∷ ps) q (Parts vs) w h e new = upd_member ps w (λ s r v i d j. upd_any s ps r v w i d j) fs vs k q (member_spot fs k) refl h e new
upd_any (Row s n) (Index i ∷ ps) q (Parts vs) w h e new = upd_element ps w (λ s r v j d k. upd_any s ps r v w j d k) s n vs i q h e new
upd_any Incomplete (p ∷ ps) q v w h e new = absurd cc
upd_any (Scalar t width) (p ∷ ps) q v w h e new = absurd cc
upd_any (Record x n align fs) (Index i ∷ ps) q v w h e new = absurd cc
upd_any (Row s n) (Field k ∷ ps) q v w h e new = absurd cc
upd_any (Record x n align fs) (Field k ∷ ps) q (Bits b) w h e new = absurd h
upd_any (Record x n align fs) (Field k ∷ ps) q (Number b) w h e new = absurd h
upd_any (Record x n align fs) (Field k ∷ ps) q (Truth b) w h e new = absurd h
upd_any (Row s n) (Index i ∷ ps) q (Bits b) w h e new = absurd h
upd_any (Row s n) (Index i ∷ ps) q (Number b) w h e new = absurd h
upd_any (Row s n) (Index i ∷ ps) q (Truth b) w h e new = absurd h

module _ (l : Layout) (h : IsLayout l) (t : CType) (a : ℕ) (path : List Step) (q : Spot) (complete : is_complete (shape_of l t) ≡ true) (at_end : spot (shape_of l t) path ≡ Some q) where
  end_formed : IsFormed q.shape
  end_formed = spot_formed (shape_of l t) path q (shape_good l h t complete).formed at_end

  cells_read : (cells : TypedHeap) → AreTags l (tags_of cells) → CellsFit l cells → HasShape q.shape (read_cells l cells t a path)
  cells_read [] tags fit = subst (λ o. HasShape q.shape (zeros_spot o)) (sym at_end) (zeros_shaped q.shape (formed_complete q.shape end_formed))
  cells_read (c ∷ cs) tags fit = by_path (cells_read cs tags.2 fit.1) (path_from l c.tag t a) refl
    where
      by_path : HasShape q.shape (read_cells l cs t a path) → (o : Option (List Step)) → path_from l c.tag t a ≡ o → HasShape q.shape (cell_part c o path (read_cells l cs t a path))
      by_path rest None k = rest
      by_path rest (Some root) k = (place_ends l h t a path c.tag root k c.value q tags.0 fit.0 at_end).1

  pub read_shaped : (heap : Heap) → IsHeap l heap → HasShape q.shape (read_heap l heap t a path)
  read_shaped (OnBytes m) is =
      subst (λ o. HasShape q.shape (load_spot (space l) m.bytes a o)) (sym at_end) (load_shaped (space l) m.bytes is.bytes q.shape (address_at (space l) a q.offset) end_formed)
  read_shaped (OnTypes cells) is = cells_read cells is.0 is.1

  module _ (v : Value) (shaped : HasShape q.shape v) where
    cells_written : (cells : TypedHeap) → AreTags l (tags_of cells) → CellsFit l cells → CellsFit l (write_cells l cells t a path v)
    cells_written [] tags fit = tt
    cells_written (c ∷ cs) tags fit = by_path (cells_written cs tags.2 fit.1) (path_from l c.tag t a) refl
      where
        by_path : CellsFit l (write_cells l cs t a path v) → (o : Option (List Step)) → path_from l c.tag t a ≡ o → CellsFit l (with_cell_part c o path v cs (write_cells l cs t a path v))
        by_path rest None k = (fit.0, rest)
        by_path rest (Some root) k =
            let r = root_of l h c.tag t a root tags.0 k in
            let at_root = root_ends l h t a c.tag root k c.value tags.0 fit.0 in (
              subst (λ u. HasShape (shape_of l c.tag.type) u) (sym (upd_append c.value root path v))
                  (upd_shaped c.value (upd (sel c.value root) path v) fit.0 (upd_any (shape_of l t) path q (sel c.value root) v at_root at_end shaped) r.leads),
              fit.1,
            )

    pub heap_kept : (heap : Heap) → IsHeap l heap → IsHeap l (write_heap l heap t a path v)
    heap_kept (OnBytes m) is = record { bytes = subst (λ o. AreBytes (store_spot (space l) a o v m.bytes)) (sym at_end) (store_bytes (space l) q.shape (address_at (space l) a q.offset) v m.bytes is.bytes); tags = is.tags }
    heap_kept (OnTypes cells) is = (subst (λ ts. AreTags l ts) (sym (tags_written l cells t a path v)) is.0, cells_written cells is.0 is.1)
