-- A written heap is one that can be.
use Rattle.typed_heap.proofs.Kept.{heap_kept}
use Rattle.typed_heap.proofs.laws.write_keeps_heap_at_any_index.Goals as goal

pub returns : goal.returns
returns c l heap t a path q v h is complete e shaped = heap_kept l h t a path q complete e v shaped heap is
