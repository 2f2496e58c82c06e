-- Writes to typed heaps keep the tags, and each value of its tag's shape.
use Rattle.std.proofs.Common.{◌≡◌, true, List, [], ◌∷◌, map, Option, Some, None, refl, ap, ℕ}
use Rattle.c_values.specs.Types.{CType}
use Rattle.c_values.specs.Value.{Value}
use Rattle.c_values.specs.Layout.{Layout, IsLayout, shape_of, space}
use Rattle.c_values.specs.Path.{Step, Spot, spot, in_range, HasShape}
use Rattle.c_values.proofs.Shaped.{upd_shaped}
use Rattle.c_memory.specs.Memory.{Tag, AreBytes}
use Rattle.c_memory.specs.Tags.{AreTags, path_from}
use Rattle.c_memory.specs.TypedHeap.{TypedHeap, tags_of, with_cell_part, write_cells}
use Rattle.c_memory.specs.Heap.{CellsFit}
use Rattle.c_memory.proofs.Covered.{tag_good}
use Rattle.c_memory.proofs.Loaded.{load_shaped}
use Rattle.c_memory.proofs.Views.{cell_at, place_in}

pub tags_written : (l : Layout) (cells : TypedHeap) (t : CType) (a : ℕ) (path : List Step) (v : Value) → tags_of (write_cells l cells t a path v) ≡ tags_of cells
tags_written l [] t a path v = refl
tags_written l (c ∷ cs) t a path v = by_cases (tags_written l cs t a path v) (path_from l c.tag t a)
  where
    by_cases : tags_of (write_cells l cs t a path v) ≡ tags_of cs → (o : Option (List Step)) → tags_of (with_cell_part c o path v cs (write_cells l cs t a path v)) ≡ tags_of (c ∷ cs)
    by_cases rest None = ap (λ ts. c.tag ∷ ts) rest
    by_cases rest (Some root) = refl

pub tags_viewed : (l : Layout) (bytes : ℕ → ℕ) (ts : List Tag) → tags_of (map (cell_at l bytes) ts) ≡ ts
tags_viewed l bytes [] = refl
tags_viewed l bytes (u ∷ us) = ap (λ ts. u ∷ ts) (tags_viewed l bytes us)

module _ (l : Layout) (h : IsLayout l) where
  pub view_fits : (bytes : ℕ → ℕ) → AreBytes bytes → (ts : List Tag) → AreTags l ts → CellsFit l (map (cell_at l bytes) ts)
  view_fits bytes known [] tags = tt
  view_fits bytes known (u ∷ us) tags = (load_shaped (space l) bytes known (shape_of l u.type) u.address (tag_good l h u tags.0).formed, view_fits bytes known us tags.2)

  pub cells_fit : (t : CType) (a : ℕ) (path : List Step) (q : Spot) → in_range (shape_of l t) path ≡ true → spot (shape_of l t) path ≡ Some q → (v : Value) → HasShape q.shape v →
      (cells : TypedHeap) → AreTags l (tags_of cells) → CellsFit l cells → CellsFit l (write_cells l cells t a path v)
  cells_fit t a path q range e v shaped [] tags fit = tt
  cells_fit t a path q range e v shaped (c ∷ cs) tags fit = by_cases (cells_fit t a path q range e v shaped cs tags.2 fit.1) (path_from l c.tag t a) refl
    where
      by_cases : CellsFit l (write_cells l cs t a path v) → (o : Option (List Step)) → path_from l c.tag t a ≡ o → CellsFit l (with_cell_part c o path v cs (write_cells l cs t a path v))
      by_cases rest None k = (fit.0, rest)
      by_cases rest (Some root) k = (upd_shaped c.value v fit.0 shaped (place_in l h t a path q range e c.tag root tags.0 k).leads, fit.1)
