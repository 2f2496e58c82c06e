-- The view of a heap that can be is one that can be.
use Rattle.c_memory.specs.CodeHeap.{memory_of}
use Rattle.typed_heap.proofs.Heaps.{heap_viewed}
use Rattle.rule_tests.proofs.chain.values.typed.Goals as goal

pub returns : goal.returns
returns c = heap_viewed c.args.l.now (memory_of c.args.h.now) c.view.result c.target.ensures.layout c.requires c.view.ensures
