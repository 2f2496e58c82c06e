-- The heap of an abstract program at a level, for a memory.
use Rattle.std.specs.Prelude.{Bool, true, false}
use Rattle.c_values.specs.Layout.{Layout}
use Rattle.c_memory.specs.Memory.{Memory}
use Rattle.c_memory.specs.TypedHeap.{view}
use Rattle.c_memory.specs.Heap.{Heap, OnBytes, OnTypes}

-- typed heaps where the function is lifted
abbrev pub heap_for : Layout → Bool → Memory → Heap
heap_for l true m = OnTypes (view l m)
heap_for l false m = OnBytes m
