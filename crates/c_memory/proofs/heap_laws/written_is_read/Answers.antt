use Rattle.std.proofs.Common.{◌≡◌, ℕ, true, List, Some}
use Rattle.c_values.specs.Types.{CType}
use Rattle.c_values.specs.Value.{Value}
use Rattle.c_values.specs.Layout.{Layout, IsLayout, shape_of}
use Rattle.c_values.specs.Path.{Step, Spot, spot, in_range, HasShape}
use Rattle.c_memory.specs.Heap.{Heap, OnBytes, OnTypes, read_heap, write_heap, is_tagged, IsHeap}
use Rattle.c_memory.proofs.Places.{covered_in_space, bytes_read_back, cells_read_back}
use Rattle.c_memory.proofs.heap_laws.written_is_read.Goals as goal

back : (l : Layout) (h : Heap) (t : CType) (a : ℕ) (path : List Step) (q : Spot) (v : Value) → IsLayout l → IsHeap l h → is_tagged l h t a ≡ true →
    in_range (shape_of l t) path ≡ true → spot (shape_of l t) path ≡ Some q → HasShape q.shape v → read_heap l (write_heap l h t a path v) t a path ≡ v
back l (OnBytes m) t a path q v h is covered range e shaped =
    bytes_read_back l h t a path q range e v m.bytes shaped (covered_in_space l h t a path q range e m.tags is.tags covered)
back l (OnTypes cells) t a path q v h is covered range e shaped = cells_read_back l h t a path q range e v cells is.0 is.1 covered

pub returns : goal.returns
returns c = back
