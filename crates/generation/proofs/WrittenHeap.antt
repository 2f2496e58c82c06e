-- A write in range leaves a heap that can be.
use Rattle.std.proofs.Common.{◌≡◌, ℕ, true, List, Some, subst, sym}
use Rattle.c_values.specs.Types.{CType}
use Rattle.c_values.specs.Value.{Value}
use Rattle.c_values.specs.Layout.{Layout, IsLayout, shape_of, space}
use Rattle.c_values.specs.Path.{Step, Spot, spot, in_range, HasShape}
use Rattle.c_memory.specs.Memory.{AreBytes}
use Rattle.c_memory.specs.Tags.{AreTags}
use Rattle.c_memory.specs.Heap.{Heap, OnBytes, OnTypes, write_heap, IsHeap}
use Rattle.c_memory.proofs.Loaded.{store_bytes}
use Rattle.c_memory.proofs.Views.{address, store_here}
use Rattle.c_memory.proofs.Cells.{tags_written, cells_fit}

pub written_heap : (l : Layout) (h : Heap) (t : CType) (a : ℕ) (path : List Step) (q : Spot) (v : Value) → IsLayout l → IsHeap l h →
    in_range (shape_of l t) path ≡ true → spot (shape_of l t) path ≡ Some q → HasShape q.shape v → IsHeap l (write_heap l h t a path v)
written_heap l (OnBytes m) t a path q v h is range e shaped =
    record { bytes = subst (λ bs. AreBytes bs) (sym (store_here l h t a path q range e v m.bytes)) (store_bytes (space l) q.shape (address l h t a path q range e) v m.bytes is.bytes); tags = is.tags }
written_heap l (OnTypes cells) t a path q v h is range e shaped =
    (subst (λ ts. AreTags l ts) (sym (tags_written l cells t a path v)) is.0, cells_fit l h t a path q range e v shaped cells is.0 is.1)
