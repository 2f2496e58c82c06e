use Rattle.std.proofs.Common.{◌≡◌, ℕ, true, List, Some}
use Rattle.c_values.specs.Types.{CType}
use Rattle.c_values.specs.Value.{Value}
use Rattle.c_values.specs.Layout.{Layout, IsLayout, shape_of, size, space}
use Rattle.c_values.specs.Path.{Step, Spot, spot, in_range}
use Rattle.c_values.proofs.Geometry.{AreApart}
use Rattle.c_memory.specs.Memory.{address_at}
use Rattle.c_memory.specs.Heap.{Heap, OnBytes, OnTypes, read_heap, write_heap, is_tagged, IsHeap}
use Rattle.c_memory.proofs.Places.{covered_in_space}
use Rattle.c_memory.proofs.Elsewhere.{bytes_elsewhere, cells_elsewhere}
use Rattle.c_memory.proofs.heap_laws.read_is_as_before.Goals as goal

stays : (l : Layout) (h : Heap) (t u : CType) (a b : ℕ) (path other : List Step) (q r : Spot) (v : Value) → IsLayout l → IsHeap l h → is_tagged l h t a ≡ true → is_tagged l h u b ≡ true →
    in_range (shape_of l t) path ≡ true → spot (shape_of l t) path ≡ Some q → in_range (shape_of l u) other ≡ true → spot (shape_of l u) other ≡ Some r →
    AreApart (address_at (space l) a q.offset) (size q.shape) (address_at (space l) b r.offset) (size r.shape) → read_heap l (write_heap l h t a path v) u b other ≡ read_heap l h u b other
stays l (OnBytes m) t u a b path other q r v h is covered covered' range e range' e' apart =
    bytes_elsewhere l h t u a b path other q r range e range' e' apart v m.bytes
    (covered_in_space l h t a path q range e m.tags is.tags covered) (covered_in_space l h u b other r range' e' m.tags is.tags covered')
stays l (OnTypes cells) t u a b path other q r v h is covered covered' range e range' e' apart =
    cells_elsewhere l h t u a b path other q r range e range' e' apart v cells is.0 is.1

pub returns : goal.returns
returns c = stays
