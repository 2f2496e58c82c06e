-- Where no tag covers the root, no cell is written.
use Rattle.std.proofs.Common.{ap}
use Rattle.c_memory.specs.Heap.{OnTypes}
use Rattle.typed_heap.proofs.Found.{write_uncovered}
use Rattle.typed_heap.proofs.laws.uncovered_write_changes_nothing.Goals as goal

pub returns : goal.returns
returns c l cells t a path v h = ap OnTypes (write_uncovered l t a path v cells h)
