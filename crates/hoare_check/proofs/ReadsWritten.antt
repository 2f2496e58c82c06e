-- Reads of typed heaps after a write: at a root that isn't covered, at the root that was written, and at roots apart from the place.
use Rattle.std.proofs.Common.{◌≡◌, ℕ, true, false, ◌||◌, List, [], ◌∷◌, ◌++◌, Option, Some, None, is_some, unwrap_or, pos, refl, sym, ap, ◌∙◌}
use Rattle.std.proofs.lemmas.Bool.{false≢true}
use Rattle.std.proofs.lemmas.List.{append-nil}
use Rattle.c_values.specs.Types.{CType}
use Rattle.c_values.specs.Value.{Value, Bits, Number, Truth, Parts, count, part, with_part}
use Rattle.c_values.specs.Layout.{Layout, IsLayout, Shape, shape_of}
use Rattle.c_values.specs.Path.{Step, Spot, spot, in_range, place_of, with_changed, sel, upd, HasShape}
use Rattle.c_values.proofs.Follow.{sel_append}
use Rattle.c_values.proofs.Geometry.{AreSplit}
use Rattle.c_values.proofs.Leads.{Leads}
use Rattle.c_values.proofs.Replaced.{sel_upd}
use Rattle.c_memory.specs.Memory.{Tag}
use Rattle.c_memory.specs.Tags.{IsTag, AreTags, path_from, is_covered}
use Rattle.c_memory.specs.TypedHeap.{Cell, TypedHeap, tags_of, zeros_spot, cell_part, read_cells, with_cell_part, write_cells}
use Rattle.c_memory.specs.Heap.{CellsFit}
use Rattle.c_memory.proofs.Cells.{tags_written}
use Rattle.c_memory.proofs.Covered.{root_of}
use Rattle.c_memory.proofs.Elsewhere.{cells_elsewhere}
use Rattle.hoare_check.proofs.PathsSplit.{split_further}
use Rattle.hoare_check.proofs.PlacesApart.{places_apart}

-- a part that is replaced after the end of another path
upd_append : (v : Value) (ps qs : List Step) (w : Value) → upd v (ps ++ qs) w ≡ upd v ps (upd (sel v ps) qs w)
upd_append v [] qs w = refl
upd_append (Bits b) (p ∷ ps) qs w = refl
upd_append (Number n) (p ∷ ps) qs w = refl
upd_append (Truth b) (p ∷ ps) qs w = refl
upd_append (Parts vs) (p ∷ ps) qs w = ap (λ us. Parts us) (by_place (λ u. upd_append u ps qs w) (place_of p (count vs)))
  where
    by_place : ((u : Value) → upd u (ps ++ qs) w ≡ upd u ps (upd (sel u ps) qs w)) → (o : Option ℕ) →
        with_changed vs o (λ v. upd v (ps ++ qs) w) ≡ with_changed vs o (λ v. upd v ps (upd (sel (part vs (unwrap_or o 0)) ps) qs w))
    by_place rest None = refl
    by_place rest (Some k) = ap (λ u. with_part vs k u) (rest (part vs k))

-- the part at a root, after a part of it was replaced
root_replaced : {s s' : Shape} {root : List Step} {d : ℕ} (u v : Value) (path other : List Step) → HasShape s u → Leads s root d s' →
    sel (upd u (root ++ path) v) (root ++ other) ≡ sel (upd (sel u root) path v) other
root_replaced {root} u v path other shaped leads =
    sel_append (upd u (root ++ path) v) root other
    ∙ ap (λ w. sel w other) (ap (λ w. sel w root) (upd_append u root path v) ∙ sel_upd u (upd (sel u root) path v) shaped leads)

-- a root that isn't covered
read_uncovered : (l : Layout) (t : CType) (a : ℕ) (path : List Step) (cells : TypedHeap) → is_covered l (tags_of cells) t a ≡ false →
    read_cells l cells t a path ≡ zeros_spot (spot (shape_of l t) path)
read_uncovered l t a path [] h = refl
read_uncovered l t a path (c ∷ cs) h = by_path (λ k. read_uncovered l t a path cs k) (path_from l c.tag t a) h
  where
    by_path : (is_covered l (tags_of cs) t a ≡ false → read_cells l cs t a path ≡ zeros_spot (spot (shape_of l t) path)) → (o : Option (List Step)) →
        (is_some o || is_covered l (tags_of cs) t a) ≡ false → cell_part c o path (read_cells l cs t a path) ≡ zeros_spot (spot (shape_of l t) path)
    by_path rest None k = rest k
    by_path rest (Some root) k = absurd (false≢true (sym k))

-- a read at a covered root is of the part of what lies there
pub read_of_root : (l : Layout) (t : CType) (a : ℕ) (path : List Step) (cells : TypedHeap) → is_covered l (tags_of cells) t a ≡ true →
    read_cells l cells t a path ≡ sel (read_cells l cells t a []) path
read_of_root l t a path [] h = absurd (false≢true h)
read_of_root l t a path (c ∷ cs) h = by_path (λ k. read_of_root l t a path cs k) (path_from l c.tag t a) h
  where
    by_path : (is_covered l (tags_of cs) t a ≡ true → read_cells l cs t a path ≡ sel (read_cells l cs t a []) path) → (o : Option (List Step)) →
        (is_some o || is_covered l (tags_of cs) t a) ≡ true →
        cell_part c o path (read_cells l cs t a path) ≡ sel (cell_part c o [] (read_cells l cs t a [])) path
    by_path rest None k = rest k
    by_path rest (Some root) k = sel_append c.value root path ∙ ap (λ ps. sel (sel c.value ps) path) (sym (append-nil root))

module _ (l : Layout) (h : IsLayout l) (t : CType) (a : ℕ) (path : List Step) (v : Value) where
  abbrev pub after : TypedHeap → TypedHeap
  after cells = write_cells l cells t a path v

  pub uncovered_kept : (cells : TypedHeap) (u : CType) (b : ℕ) (other : List Step) → is_covered l (tags_of cells) u b ≡ false →
      read_cells l (after cells) u b other ≡ read_cells l cells u b other
  uncovered_kept cells u b other k =
      read_uncovered l u b other (after cells) (ap (λ ts. is_covered l ts u b) (tags_written l cells t a path v) ∙ k) ∙ sym (read_uncovered l u b other cells k)

  -- the root that was written
  pub same_root_read : (cells : TypedHeap) (other : List Step) → AreTags l (tags_of cells) → CellsFit l cells → is_covered l (tags_of cells) t a ≡ true →
      read_cells l (after cells) t a other ≡ sel (upd (read_cells l cells t a []) path v) other
  same_root_read [] other tags fit k = absurd (false≢true k)
  same_root_read (c ∷ cs) other tags fit k = by_path (λ i. same_root_read cs other tags.2 fit.1 i) (path_from l c.tag t a) refl k
    where
      changed : List Step → Cell
      changed root = record { tag = c.tag; value = upd c.value (root ++ path) v }

      by_path : (is_covered l (tags_of cs) t a ≡ true → read_cells l (after cs) t a other ≡ sel (upd (read_cells l cs t a []) path v) other) →
          (o : Option (List Step)) → path_from l c.tag t a ≡ o → (is_some o || is_covered l (tags_of cs) t a) ≡ true →
          read_cells l (with_cell_part c o path v cs (after cs)) t a other ≡ sel (upd (cell_part c o [] (read_cells l cs t a [])) path v) other
      by_path rest None e i = ap (λ o. cell_part c o other (read_cells l (after cs) t a other)) e ∙ rest i
      by_path rest (Some root) e i =
          ap (λ o. cell_part (changed root) o other (read_cells l cs t a other)) e
          ∙ root_replaced c.value v path other fit.0 (root_of l h c.tag t a root tags.0 e).leads
          ∙ ap (λ ps. sel (upd (sel c.value ps) path v) other) (sym (append-nil root))

  -- a covered root apart from the root that was written
  pub split_root_kept : (cells : TypedHeap) (u : CType) (b : ℕ) (other : List Step) (q : Spot) → in_range (shape_of l t) path ≡ true →
      spot (shape_of l t) path ≡ Some q →
      AreTags l (tags_of cells) → CellsFit l cells → is_covered l (tags_of cells) t a ≡ true → is_covered l (tags_of cells) u b ≡ true →
      ((c : Tag) (root root' : List Step) → IsTag l c → path_from l c t a ≡ Some root → path_from l c u b ≡ Some root' → AreSplit root root') →
      read_cells l (after cells) u b other ≡ read_cells l cells u b other
  split_root_kept cells u b other q range at_end tags fit k k' split =
      let whole : Spot = record { offset = pos 0; shape = shape_of l u } in
      let apart = places_apart l h t u a b path [] q whole range at_end refl refl (tags_of cells) tags k k'
      (λ c root root' i e e'. split_further root root' path [] (split c root root' i e e')) in
      read_of_root l u b other (after cells) (ap (λ ts. is_covered l ts u b) (tags_written l cells t a path v) ∙ k')
      ∙ ap (λ w. sel w other) (cells_elsewhere l h t u a b path [] q whole range at_end refl refl apart v cells tags fit)
      ∙ sym (read_of_root l u b other cells k')
