-- Either heap, and what expressions and programs ask of it. A program is written once and runs on both: on bytes a typed
-- read is the load at its place, and on a typed heap a load is the read.
use Rattle.std.specs.Prelude.{ℕ, Bool, List, [], ◌∷◌}
use Rattle.c_values.specs.Types.{CType}
use Rattle.c_values.specs.Value.{Value}
use Rattle.c_values.specs.Layout.{Layout, shape_of, space}
use Rattle.c_values.specs.Path.{Step, HasShape}
use Rattle.c_memory.specs.Memory.{Tag, Memory, load_at, store_at}
use Rattle.c_memory.specs.Tags.{is_covered, IsWellTagged, AreTags}
use Rattle.c_memory.specs.TypedHeap.{TypedHeap, tags_of, read_cells, write_cells}

pub data Heap : Type 0 where
  OnBytes : Memory → Heap
  OnTypes : TypedHeap → Heap

abbrev pub heap_tags : Heap → List Tag
heap_tags (OnBytes m) = m.tags
heap_tags (OnTypes cells) = tags_of cells

-- the value at a root and a path
abbrev pub read_heap : Layout → Heap → CType → ℕ → List Step → Value
read_heap l (OnBytes m) t a path = load_at (space l) m.bytes (shape_of l t) a path
read_heap l (OnTypes cells) t a path = read_cells l cells t a path

abbrev pub write_heap : Layout → Heap → CType → ℕ → List Step → Value → Heap
write_heap l (OnBytes m) t a path v = OnBytes (record { bytes = store_at (space l) (shape_of l t) a path v m.bytes; tags = m.tags })
write_heap l (OnTypes cells) t a path v = OnTypes (write_cells l cells t a path v)

-- whether the root is covered
abbrev pub is_tagged : Layout → Heap → CType → ℕ → Bool
is_tagged l h t a = is_covered l (heap_tags h) t a

-- each value is of its tag's type
abbrev pub CellsFit : Layout → TypedHeap → Type 0
CellsFit l [] = Unit {0}
CellsFit l (c ∷ cs) = HasShape (shape_of l c.tag.type) c.value × CellsFit l cs

-- a heap that can be: well-tagged, and each value of its tag's type
abbrev pub IsHeap : Layout → Heap → Type 0
IsHeap l (OnBytes m) = IsWellTagged l m
IsHeap l (OnTypes cells) = AreTags l (tags_of cells) × CellsFit l cells
