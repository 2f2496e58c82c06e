-- The values so far are those that memory has at the tags so far.
use Rattle.std.proofs.Common.{◌≡◌, length, map, take}
use Rattle.c_memory.specs.CodeTag.{tag_of}
use Rattle.c_memory.specs.CodePages.{byte_at}
use Rattle.typed_heap.specs.CodeCells.{cells_from}
use Rattle.typed_heap.proofs.Cells.{cell_of}
use Rattle.typed_heap.proofs.viewing.view.Given as goal

abbrev pub invariant-loop-address : goal.invariant-loop-address
invariant-loop-address l = record {
  many : length l.values.items ≡ l.address-index;
  cells : cells_from (map tag_of (take l.address-index l.address-items)) l.values.items
      ≡ map (cell_of l.l (byte_at l.h.pages)) (map tag_of (take l.address-index l.address-items));
}
