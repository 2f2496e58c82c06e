-- Parts of a good shape, wherever the indices are: what is read there, and what zeros are.
use Rattle.std.proofs.Common.{◌≡◌, ℕ, zero, suc, ◌+◌, ◌<◌, nat_lt, Bool, true, false, List, [], ◌∷◌, Option, Some, None, ℤ, pos, negsuc, ◌*ℤ◌, cond, ◌-◌, ◌+ℤ◌, refl, sym, ap, subst, arith}
use Rattle.std.proofs.lemmas.Nat.{mod_below, pow_pos}
use Rattle.std.specs.Prelude.{nat_le}
use Rattle.std.specs.Int.{int_rem_euclid}
use Rattle.c_values.specs.Types.{CType, address_width}
use Rattle.c_values.specs.Number.{natural}
use Rattle.c_values.specs.Value.{Value, Values, Bits, Number, Truth, Parts, no_values, more, count, part, with_part}
use Rattle.c_values.specs.Layout.{Layout, IsLayout, Shape, Incomplete, Scalar, Record, Row, Fields, no_fields, field, size, shape_of, is_complete, is_object, space}
use Rattle.c_values.specs.Path.{Step, Field, Index, Spot, spot, member_spot, step_spot, and_then_spot, further, place_of, with_changed, sel, upd, zeros, member_zeros, HasShape, AreMembers, AreElements}
use Rattle.c_values.proofs.Formed.{IsFormed, AreFormed}
use Rattle.c_values.proofs.Laid.{AreLaid, IsGood, structs_of, shape_good}
use Rattle.c_values.proofs.Leads.{leads_spot}
use Rattle.c_values.proofs.Parts.{formed_complete}
use Rattle.c_memory.specs.Memory.{load_spot, address_at}
use Rattle.c_memory.specs.Tags.{path_from, root_path, AreTags}
use Rattle.c_memory.specs.TypedHeap.{TypedHeap, zeros_spot, cell_part, read_cells, tags_of}
use Rattle.c_memory.specs.Heap.{Heap, OnBytes, OnTypes, read_heap, IsHeap, CellsFit}
use Rattle.c_memory.proofs.Loaded.{load_shaped}
use Rattle.c_memory.proofs.Roots.{found_leads}
use Rattle.c_values.proofs.Follow.{path_ends, sel_append, further_parts}
use Rattle.c_values.proofs.Options.{some_is}
use Rattle.c_values.proofs.Shaped.{copies_shaped}
use Rattle.expression_lang.proofs.Sorting.{object_whole}
use Rattle.expression_lang.proofs.Filled.{word_fits}

-- remainders
pub rem_below : (z : ℤ) (m : ℕ) → 0 < m → natural (int_rem_euclid z (pos m)) < m
rem_below (pos a) m h = mod_below a m h
rem_below (negsuc a) m h = omega (arith, mod_below a m h)

pub address_below : (l : Layout) (a : ℕ) (z : ℤ) → address_at (space l) a z < space l
address_below l a z = rem_below (pos a +ℤ z) (space l) (pow_pos (address_width l.target))

mutual
  pub zeros_shaped : (s : Shape) → IsFormed s → HasShape s (zeros s)
  zeros_shaped Incomplete f = absurd f
  zeros_shaped (Scalar t width) f = word_fits width (pos 0)
  zeros_shaped (Record x n align fs) f = member_zeros_shaped fs align n 0 f.members
  zeros_shaped (Row e n) f = copies_shaped (λ v. HasShape e v) n (zeros e) (zeros_shaped e f.element)

  member_zeros_shaped : (fs : Fields) (align n at : ℕ) → AreFormed align n at fs → AreMembers fs (member_zeros fs)
  member_zeros_shaped no_fields align n at f = tt
  member_zeros_shaped (field offset s fs) align n at f = (zeros_shaped s f.first, member_zeros_shaped fs align n (offset + size s) f.others)

module _ (l : Layout) where
  abbrev pub Good : Shape → Type 0
  Good s = IsGood l.target (structs_of l) s

  pub good_whole : (s : Shape) → Good s → is_complete s ≡ true
  good_whole s h = formed_complete s h.formed

  pub good_object : (t : CType) → IsLayout l → is_object l t ≡ true → Good (shape_of l t)
  good_object t h object = shape_good l h t (object_whole l t object)

  pub good_member : (fs : Fields) (align n at k : ℕ) (q : Spot) → AreFormed align n at fs → AreLaid l.target (structs_of l) fs → member_spot fs k ≡ Some q → Good q.shape
  good_member no_fields align n at k q f h e = absurd cc
  good_member (field offset s fs) align n at zero q f h e =
      let same : s ≡ q.shape = ap (λ r. r.shape) (some_is e) in
      subst (λ r. Good r) same (record { formed = f.first; laid = h.first })
  good_member (field offset s fs) align n at (suc k) q f h e = good_member fs align n (offset + size s) k q f.others h.others e

  pub good_step : (s : Shape) (p : Step) (q : Spot) → Good s → step_spot s p ≡ Some q → Good q.shape
  good_step (Record x n align fs) (Field k) q g e = good_member fs align n 0 k q g.formed.members g.laid.members e
  good_step (Row r n) (Index i) q g e =
      let same : r ≡ q.shape = ap (λ v. v.shape) (some_is e) in
      subst (λ s. Good s) same (record { formed = g.formed.element; laid = g.laid })
  good_step _ _ q g e = absurd cc

  pub good_spot : (s : Shape) (ps : List Step) (q : Spot) → Good s → spot s ps ≡ Some q → Good q.shape
  good_spot s [] q g e = subst (λ r. Good r) (ap (λ (v : Spot). v.shape) (some_is e)) g
  good_spot s (p ∷ ps) q g e = by_step (step_spot s p) refl e (λ r. good_spot r ps)
    where
      by_step : (o : Option Spot) → step_spot s p ≡ o → and_then_spot o (λ r. further r.offset (spot r.shape ps)) ≡ Some q →
          ((r : Shape) (f : Spot) → Good r → spot r ps ≡ Some f → Good f.shape) → Good q.shape
      by_step None same h rest = absurd cc
      by_step (Some r) same h rest =
          let f = further_parts r.offset (spot r.shape ps) q h in
          subst (λ s'. Good s') (sym f.2) (rest r.shape f.0 (good_step s p r g same) f.1)

-- a value with a part replaced is of its shape
member_put : (fs : Fields) (vs : Values) (k : ℕ) (q : Spot) (f : Value → Value) → AreMembers fs vs → member_spot fs k ≡ Some q →
    ((v : Value) → HasShape q.shape v → HasShape q.shape (f v)) → AreMembers fs (with_part vs k (f (part vs k)))
member_put no_fields vs k q f h e g = absurd cc
member_put (field at s fs) no_values k q f h e g = absurd h
member_put (field at s fs) (more v vs) zero q f h e g =
    let same : s ≡ q.shape = ap (λ r. r.shape) (some_is e) in
    (subst (λ r. HasShape r (f v)) (sym same) (g v (subst (λ r. HasShape r v) same h.0)), h.1)
member_put (field at s fs) (more v vs) (suc k) q f h e g = (h.0, member_put fs vs k q f h.1 e g)

element_put : (P : Value → Type 0) (n : ℕ) (vs : Values) (k : ℕ) (f : Value → Value) → AreElements P n vs → ((v : Value) → P v → P (f v)) → AreElements P n (with_part vs k (f (part vs k)))
element_put P zero no_values k f h g = tt
element_put P (suc n) (more v vs) zero f h g = (g v h.0, h.1)
element_put P (suc n) (more v vs) (suc k) f h g = (h.0, element_put P n vs k f h.1 g)
element_put _ _ _ _ _ h _ = absurd h

members_put : (fs : Fields) (vs : Values) (k : ℕ) (b : Bool) (q : Spot) (f : Value → Value) → AreMembers fs vs → member_spot fs k ≡ Some q →
    ((v : Value) → HasShape q.shape v → HasShape q.shape (f v)) → AreMembers fs (with_changed vs (cond b (Some k) None) f)
members_put fs vs k true q f h e g = member_put fs vs k q f h e g
members_put fs vs k false q f h e g = h

elements_put : (P : Value → Type 0) (n : ℕ) (vs : Values) (o : Option ℕ) (f : Value → Value) → AreElements P n vs → ((v : Value) → P v → P (f v)) → AreElements P n (with_changed vs o f)
elements_put P n vs None f h g = h
elements_put P n vs (Some k) f h g = element_put P n vs k f h g

module _ (ps : List Step) (w : Value) (rest : (s : Shape) (u : Value) (q : Spot) → HasShape s u → spot s ps ≡ Some q → HasShape q.shape w → HasShape s (upd u ps w)) where
  rest_put : (z : ℤ) (s : Shape) (q : Spot) → further z (spot s ps) ≡ Some q → HasShape q.shape w → (u : Value) → HasShape s u → HasShape s (upd u ps w)
  rest_put z s q e k u h =
      let f = further_parts z (spot s ps) q e in
      rest s u f.0 h f.1 (subst (λ r. HasShape r w) f.2 k)

  record_put : (fs : Fields) (vs : Values) (k : ℕ) (q : Spot) (o : Option Spot) → member_spot fs k ≡ o → AreMembers fs vs →
      and_then_spot o (λ r. further r.offset (spot r.shape ps)) ≡ Some q → HasShape q.shape w → AreMembers fs (with_changed vs (place_of (Field k) (count vs)) (λ v. upd v ps w))
  record_put fs vs k q None same h e x = absurd cc
  record_put fs vs k q (Some r) same h e x = members_put fs vs k (nat_lt k (count vs)) r (λ v. upd v ps w) h same (λ v. rest_put r.offset r.shape q e x v)

  row_put : (s : Shape) (n : ℕ) (vs : Values) (i : ℤ) (q : Spot) → AreElements (λ v. HasShape s v) n vs →
      further (i *ℤ pos (size s)) (spot s ps) ≡ Some q → HasShape q.shape w → AreElements (λ v. HasShape s v) n (with_changed vs (place_of (Index i) (count vs)) (λ v. upd v ps w))
  row_put s n vs i q h e x = elements_put (λ v. HasShape s v) n vs (place_of (Index i) (count vs)) (λ v. upd v ps w) h (λ v. rest_put (i *ℤ pos (size s)) s q e x v)

pub upd_put : (ps : List Step) (w : Value) (s : Shape) (u : Value) (q : Spot) → HasShape s u → spot s ps ≡ Some q → HasShape q.shape w → HasShape s (upd u ps w)
upd_put [] w s u q h e k = subst (λ r. HasShape r w) (sym (ap (λ (v : Spot). v.shape) (some_is e))) k
upd_put (Field k ∷ ps) w (Record x n align fs) (Parts vs) q h e y = record_put ps w (λ s u r. upd_put ps w s u r) fs vs k q (member_spot fs k) refl h e y
upd_put (Index i ∷ ps) w (Row s n) (Parts vs) q h e y = row_put ps w (λ s' u r. upd_put ps w s' u r) s n vs i q h e y
upd_put (p ∷ ps) w Incomplete u q h e y = absurd h
upd_put (p ∷ ps) w (Scalar t width) u q h e y = absurd cc
upd_put (Index i ∷ ps) w (Record x n align fs) u q h e y = absurd cc
upd_put (Field k ∷ ps) w (Row s n) u q h e y = absurd cc
upd_put (Field k ∷ ps) w (Record x n align fs) (Bits v) q h e y = absurd h
upd_put (Field k ∷ ps) w (Record x n align fs) (Number v) q h e y = absurd h
upd_put (Field k ∷ ps) w (Record x n align fs) (Truth v) q h e y = absurd h
upd_put (Index i ∷ ps) w (Row s n) (Bits v) q h e y = absurd h
upd_put (Index i ∷ ps) w (Row s n) (Number v) q h e y = absurd h
upd_put (Index i ∷ ps) w (Row s n) (Truth v) q h e y = absurd h

-- what is read is of its shape
pub path_when : (b : Bool) (o : Option (List Step)) (root : List Step) → cond b o None ≡ Some root → o ≡ Some root
path_when true o root e = e
path_when false o root e = absurd cc

module _ (l : Layout) (h : IsLayout l) (t : CType) (object : is_object l t ≡ true) (a : ℕ) (ps : List Step) (q : Spot) (leads : spot (shape_of l t) ps ≡ Some q) where
  cells_read : (cells : TypedHeap) → AreTags l (tags_of cells) → CellsFit l cells → HasShape q.shape (read_cells l cells t a ps)
  cells_read [] tags fit =
      subst (λ o. HasShape q.shape (zeros_spot o)) (sym leads) (zeros_shaped q.shape (good_spot l (shape_of l t) ps q (good_object l t h object) leads).formed)
  cells_read (c ∷ cs) tags fit = by_path (path_from l c.tag t a) refl (cells_read cs tags.2 fit.1)
    where
      by_path : (o : Option (List Step)) → path_from l c.tag t a ≡ o → HasShape q.shape (read_cells l cs t a ps) → HasShape q.shape (cell_part c o ps (read_cells l cs t a ps))
      by_path None e rest = rest
      by_path (Some root) e rest =
          let whole = object_whole l c.tag.type tags.0.object in
          let found = path_when (nat_le c.tag.address a) (root_path (shape_of l c.tag.type) t (a - c.tag.address)) root e in
          let way = found_leads l c.tag.type t (a - c.tag.address) root h whole found in
          let first = path_ends (shape_of l c.tag.type) root _ c.value whole fit.0 (leads_spot way) in
          let second = path_ends (shape_of l t) ps q (sel c.value root) (object_whole l t object) first.1 leads in
          subst (λ v. HasShape q.shape v) (sym (sel_append c.value root ps)) second.1

  pub heap_read : (heap : Heap) → IsHeap l heap → HasShape q.shape (read_heap l heap t a ps)
  heap_read (OnBytes m) k =
      subst (λ o. HasShape q.shape (load_spot (space l) m.bytes a o)) (sym leads)
      (load_shaped (space l) m.bytes k.bytes q.shape (address_at (space l) a q.offset) (good_spot l (shape_of l t) ps q (good_object l t h object) leads).formed)
  heap_read (OnTypes cells) k = cells_read cells k.0 k.1
