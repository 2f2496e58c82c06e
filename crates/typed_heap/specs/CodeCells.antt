-- What the code's typed heaps stand for.
use Rattle.std.specs.Prelude.{List, [], ◌∷◌}
use Rattle.c_values.specs.declared.values.Value as V
use Rattle.c_values.specs.CodeValue.{value_of}
use Rattle.c_memory.specs.Memory.{Tag}
use Rattle.c_memory.specs.TypedHeap.{TypedHeap}
use Rattle.c_memory.specs.Heap.{Heap, OnTypes}
use Rattle.typed_heap.specs.declared.heap.TypedHeap as T

-- each tag with its value
abbrev pub cells_from : List Tag → List V.Value → TypedHeap
cells_from [] vs = []
cells_from (t ∷ ts) [] = []
cells_from (t ∷ ts) (v ∷ vs) = record { tag = t; value = value_of v } ∷ cells_from ts vs

abbrev pub cells_of : T.TypedHeap → TypedHeap
cells_of h = cells_from h.tags h.values.items

abbrev pub typed_content : T.TypedHeap → Heap
typed_content h = OnTypes (cells_of h)
