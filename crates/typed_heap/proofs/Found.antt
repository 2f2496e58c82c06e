-- The one cell whose tag covers a root.
use Rattle.std.proofs.Common.{◌≡◌, ℕ, zero, suc, ◌+◌, ◌<◌, ◌≤◌, true, false, ◌||◌, List, [], ◌∷◌, ◌++◌, length, get_or, slice_get, slice_set, Option, Some, None, is_some, IsSome, refl, sym, ap, ◌∙◌, subst, arith}
use Rattle.std.proofs.lemmas.Bool.{false≢true}
use Rattle.std.specs.Option.{option_map}
use Rattle.c_values.specs.declared.values.Value as V
use Rattle.c_values.specs.Types.{CType}
use Rattle.c_values.specs.Value.{Value}
use Rattle.c_values.specs.Layout.{Layout, IsLayout, shape_of, size_of}
use Rattle.c_values.specs.Path.{Step, Spot, spot, sel, upd, HasShape}
use Rattle.c_values.specs.CodeValue.{value_of}
use Rattle.c_values.proofs.Formed.{size_some}
use Rattle.c_values.proofs.Leads.{leads_spot}
use Rattle.c_values.proofs.Parts.{formed_complete}
use Rattle.c_memory.specs.Memory.{Tag}
use Rattle.c_memory.specs.Tags.{IsTag, AreTags, path_from, is_covered}
use Rattle.c_memory.specs.CodeTagIndex.{Covers}
use Rattle.c_memory.specs.TypedHeap.{TypedHeap, tags_of, zeros_spot, cell_part, read_cells, with_cell_part, write_cells}
use Rattle.c_memory.specs.Heap.{CellsFit}
use Rattle.c_memory.proofs.Objects.{object_complete}
use Rattle.c_memory.proofs.Covered.{root_of, apart_at}
use Rattle.c_memory.proofs.Neighbours.{tag_at, apart_here}
use Rattle.typed_heap.specs.CodeCells.{cells_from}
use Rattle.c_values.specs.CodeFollow.{CanFollow}
use Rattle.c_values.proofs.Follow.{sel_append, follow_append, path_ends}
use Rattle.c_values.proofs.Options.{some_is, none_some}

pub tags_from : (ts : List Tag) (vs : List V.Value) → length vs ≡ length ts → tags_of (cells_from ts vs) ≡ ts
tags_from [] vs e = refl
tags_from (t ∷ ts) [] e = absurd (omega arith)
tags_from (t ∷ ts) (v ∷ vs) e = ap (λ us. t ∷ us) (tags_from ts vs (omega arith))

-- a root that isn't covered
pub read_uncovered : (l : Layout) (t : CType) (a : ℕ) (path : List Step) (cells : TypedHeap) → is_covered l (tags_of cells) t a ≡ false → read_cells l cells t a path ≡ zeros_spot (spot (shape_of l t) path)
read_uncovered l t a path [] h = refl
read_uncovered l t a path (c ∷ cs) h = by_path (λ k. read_uncovered l t a path cs k) (path_from l c.tag t a) h
  where
    by_path : (is_covered l (tags_of cs) t a ≡ false → read_cells l cs t a path ≡ zeros_spot (spot (shape_of l t) path)) → (o : Option (List Step)) →
        (is_some o || is_covered l (tags_of cs) t a) ≡ false → cell_part c o path (read_cells l cs t a path) ≡ zeros_spot (spot (shape_of l t) path)
    by_path rest None k = rest k
    by_path rest (Some root) k = absurd (false≢true (sym k))

pub write_uncovered : (l : Layout) (t : CType) (a : ℕ) (path : List Step) (new : Value) (cells : TypedHeap) → is_covered l (tags_of cells) t a ≡ false → write_cells l cells t a path new ≡ cells
write_uncovered l t a path new [] h = refl
write_uncovered l t a path new (c ∷ cs) h = by_path (λ k. write_uncovered l t a path new cs k) (path_from l c.tag t a) h
  where
    by_path : (is_covered l (tags_of cs) t a ≡ false → write_cells l cs t a path new ≡ cs) → (o : Option (List Step)) →
        (is_some o || is_covered l (tags_of cs) t a) ≡ false → with_cell_part c o path new cs (write_cells l cs t a path new) ≡ c ∷ cs
    by_path rest None k = ap (λ ds. c ∷ ds) (rest k)
    by_path rest (Some root) k = absurd (false≢true (sym k))

-- a root lies in its tag's object
pub root_within : (l : Layout) (h : IsLayout l) (u : Tag) (t : CType) (a : ℕ) (path : List Step) → IsTag l u → path_from l u t a ≡ Some path → (u.address ≤ a) × (a < u.address + size_of l u.type)
root_within l h u t a path tag e =
    let r = root_of l h u t a path tag e in
    let some : 0 < size_of l t = size_some (shape_of l t) r.within.formed in
    let end : r.at + size_of l t ≤ size_of l u.type = r.within.ends in
    let address : u.address + r.at ≡ a = r.address in
    (omega arith, omega arith)

-- at the position of the tag that covers a root
module _ (l : Layout) (h : IsLayout l) (t : CType) (a : ℕ) (path : List Step) (u : Tag) (root : List Step) (finds : path_from l u t a ≡ Some root) where
  not_before : (w : Tag) (ws : List Tag) (k : ℕ) → AreTags l (w ∷ ws) → slice_get ws k ≡ Some u → path_from l w t a ≡ None
  not_before w ws k tags e = by_path (path_from l w t a) refl
    where
      by_path : (o : Option (List Step)) → path_from l w t a ≡ o → o ≡ None
      by_path None f = refl
      by_path (Some r) f =
          absurd (apart_at l w u a (apart_here l w ws k u tags.1 e) (root_within l h w t a r tags.0 f) (root_within l h u t a root (tag_at l ws k u tags.2 e) finds))

  pub read_at : (ts : List Tag) (vs : List V.Value) (k : ℕ) (v : V.Value) → AreTags l ts → length vs ≡ length ts → slice_get ts k ≡ Some u → k < length vs → v ≡ get_or vs k v →
      sel (value_of v) (root ++ path) ≡ read_cells l (cells_from ts vs) t a path
  read_at [] vs k v tags many e lt is = absurd (none_some e)
  read_at (w ∷ ws) [] k v tags many e lt is = absurd (omega arith)
  read_at (w ∷ ws) (x ∷ xs) zero v tags many e lt is =
      let here = ap (λ z. path_from l z t a) (some_is e) ∙ finds in
      ap (λ y. sel (value_of y) (root ++ path)) is
      ∙ sym (ap (λ o. cell_part (record { tag = w; value = value_of x }) o path (read_cells l (cells_from ws xs) t a path)) here)
  read_at (w ∷ ws) (x ∷ xs) (suc k) v tags many e lt is =
      read_at ws xs k v tags.2 (omega arith) e (omega arith) is
      ∙ sym (ap (λ o. cell_part (record { tag = w; value = value_of x }) o path (read_cells l (cells_from ws xs) t a path)) (not_before w ws k tags e))

  pub write_at : (ts : List Tag) (vs : List V.Value) (k : ℕ) (v new : V.Value) (part : Value) → AreTags l ts → length vs ≡ length ts → slice_get ts k ≡ Some u → k < length vs → v ≡ get_or vs k v →
      value_of new ≡ upd (value_of v) (root ++ path) part → cells_from ts (slice_set vs k new) ≡ write_cells l (cells_from ts vs) t a path part
  write_at [] vs k v new part tags many e lt is put = absurd (none_some e)
  write_at (w ∷ ws) [] k v new part tags many e lt is put = absurd (omega arith)
  write_at (w ∷ ws) (x ∷ xs) zero v new part tags many e lt is put =
      let here = ap (λ z. path_from l z t a) (some_is e) ∙ finds in
      ap (λ y. record { tag = w; value = y } ∷ cells_from ws xs) (put ∙ ap (λ y. upd (value_of y) (root ++ path) part) is)
      ∙ sym (ap (λ o. with_cell_part (record { tag = w; value = value_of x }) o path part (cells_from ws xs) (write_cells l (cells_from ws xs) t a path part)) here)
  write_at (w ∷ ws) (x ∷ xs) (suc k) v new part tags many e lt is put =
      ap (λ cs. record { tag = w; value = value_of x } ∷ cs) (write_at ws xs k v new part tags.2 (omega arith) e (omega arith) is put)
      ∙ sym (ap (λ o. with_cell_part (record { tag = w; value = value_of x }) o path part (cells_from ws xs) (write_cells l (cells_from ws xs) t a path part)) (not_before w ws k tags e))

  -- the root in a value of the tag's type
  root_here : (v : Value) → IsTag l u → HasShape (shape_of l u.type) v → CanFollow v root × HasShape (shape_of l t) (sel v root)
  root_here v tag shaped = path_ends (shape_of l u.type) root _ v (object_complete l u.type tag.object) shaped (leads_spot (root_of l h u t a root tag finds).leads)

  -- the place in a value of the tag's type
  pub place_ends : (v : Value) (q : Spot) → IsTag l u → HasShape (shape_of l u.type) v → spot (shape_of l t) path ≡ Some q → CanFollow v (root ++ path) × HasShape q.shape (sel v (root ++ path))
  place_ends v q tag shaped e =
      let r = root_of l h u t a root tag finds in
      let to_root = root_here v tag shaped in
      let to_place = path_ends (shape_of l t) path q (sel v root) (formed_complete (shape_of l t) r.within.formed) to_root.1 e in
      (follow_append v root path to_root.0 to_place.0, subst (λ w. HasShape q.shape w) (sym (sel_append v root path)) to_place.1)

pub root_ends : (l : Layout) (h : IsLayout l) (t : CType) (a : ℕ) (u : Tag) (root : List Step) → path_from l u t a ≡ Some root → (v : Value) → IsTag l u → HasShape (shape_of l u.type) v → HasShape (shape_of l t) (sel v root)
root_ends l h t a u root finds v tag shaped = (root_here l h t a [] u root finds v tag shaped).1

pub value_fits : (l : Layout) (ts : List Tag) (vs : List V.Value) (k : ℕ) (u : Tag) (v : V.Value) → CellsFit l (cells_from ts vs) → slice_get ts k ≡ Some u → k < length vs → v ≡ get_or vs k v → HasShape (shape_of l u.type) (value_of v)
value_fits l [] vs k u v fit e lt is = absurd (none_some e)
value_fits l (w ∷ ws) [] k u v fit e lt is = absurd (omega arith)
value_fits l (w ∷ ws) (x ∷ xs) zero u v fit e lt is =
    subst (λ z. HasShape (shape_of l z.type) (value_of v)) (some_is e) (subst (λ y. HasShape (shape_of l w.type) (value_of y)) (sym is) fit.0)
value_fits l (w ∷ ws) (x ∷ xs) (suc k) u v fit e lt is = value_fits l ws xs k u v fit.1 e (omega arith) is

pub path_of_some : (o : Option (List Step)) → is_some o ≡ true → (ps : List Step) × (o ≡ Some ps)
path_of_some None h = absurd (false≢true h)
path_of_some (Some ps) h = (ps, refl)

pub spot_of_some : (o : Option Spot) → IsSome o → (q : Spot) × (o ≡ Some q)
spot_of_some None h = absurd (false≢true h)
spot_of_some (Some q) h = (q, refl)

pub same_item : (ts : List Tag) (k : ℕ) (u v : Tag) → slice_get ts k ≡ Some u → slice_get ts k ≡ Some v → u ≡ v
same_item ts k u v e f = some_is (sym e ∙ f)

-- what is known of the steps to a place whose root a tag covers
pub record IsFound (l : Layout) (ts : List Tag) (t : CType) (a : ℕ) (path : List Step) (steps : Option (List Step)) (u : Tag) : Type 0 where
  pub root : List Step
  pub finds : path_from l u t a ≡ Some root
  pub are : steps ≡ Some (root ++ path)

pub found : (l : Layout) (ts : List Tag) (t : CType) (a k : ℕ) (path : List Step) (steps : Option (List Step)) (c : Covers l ts t a k) →
    ((u : Tag) → slice_get ts k ≡ Some u → steps ≡ option_map (λ root. root ++ path) (path_from l u t a)) → IsFound l ts t a path steps c.tag
found l ts t a k path steps c are =
    let r = path_of_some (path_from l c.tag t a) c.path in
    record { root = r.0; finds = r.1; are = are c.tag c.is ∙ ap (λ o. option_map (λ root. root ++ path) o) r.1 }
