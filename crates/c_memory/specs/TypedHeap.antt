-- Typed heaps: for each tag the value that lies there, in place of bytes (the split heaps of AutoCorres). The values of one
-- type are a map from its tagged addresses; a heap is all these maps at once, as a list. The code keeps a map for each type.
use Rattle.std.specs.Prelude.{ℕ, List, [], ◌∷◌, ◌++◌, map, Option, Some, None}
use Rattle.c_values.specs.Types.{CType}
use Rattle.c_values.specs.Value.{Value, nothing}
use Rattle.c_values.specs.Layout.{Layout, shape_of, space}
use Rattle.c_values.specs.Path.{Step, Spot, spot, sel, upd, zeros}
use Rattle.c_memory.specs.Memory.{Tag, Memory, load}
use Rattle.c_memory.specs.Tags.{path_from}

-- a tagged address with the value that lies there
pub record Cell : Type 0 where
  pub tag : Tag
  pub value : Value

abbrev pub TypedHeap : Type 0
TypedHeap = List Cell

abbrev pub tags_of : TypedHeap → List Tag
tags_of = map (λ c. c.tag)

-- what a memory's tags name
abbrev pub view : Layout → Memory → TypedHeap
view l m = map (λ t. record { tag = t; value = load (space l) m.bytes (shape_of l t.type) t.address }) m.tags

abbrev pub zeros_spot : Option Spot → Value
zeros_spot None = nothing
zeros_spot (Some q) = zeros q.shape

-- the part of a cell's value that lies at a root and a path, where the cell covers the root
abbrev pub cell_part : Cell → Option (List Step) → List Step → Value → Value
cell_part c None path rest = rest
cell_part c (Some root) path rest = sel c.value (root ++ path)

-- at a covered root the part of its tag's value, else zeros
abbrev pub read_cells : Layout → TypedHeap → CType → ℕ → List Step → Value
read_cells l [] t a path = zeros_spot (spot (shape_of l t) path)
read_cells l (c ∷ cs) t a path = cell_part c (path_from l c.tag t a) path (read_cells l cs t a path)

abbrev pub with_cell_part : Cell → Option (List Step) → List Step → Value → TypedHeap → TypedHeap → TypedHeap
with_cell_part c None path v cs rest = c ∷ rest
with_cell_part c (Some root) path v cs rest = record { tag = c.tag; value = upd c.value (root ++ path) v } ∷ cs

-- at a covered root that part of its tag's value is changed, and nothing else
abbrev pub write_cells : Layout → TypedHeap → CType → ℕ → List Step → Value → TypedHeap
write_cells l [] t a path v = []
write_cells l (c ∷ cs) t a path v = with_cell_part c (path_from l c.tag t a) path v cs (write_cells l cs t a path v)
