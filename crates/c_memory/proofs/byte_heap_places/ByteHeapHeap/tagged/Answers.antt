use Rattle.std.proofs.Common.{◌∙◌}
use Rattle.c_values.specs.CodeTypes.{type_of}
use Rattle.c_memory.proofs.Read.{found_covered}
use Rattle.c_memory.proofs.byte_heap_places.ByteHeapHeap.tagged.Goals as goal

pub returns : goal.returns
returns c = c.is_some.ensures ∙ found_covered c.args.l.now c.args.self.now.tags (type_of c.args.t.now) c.args.address c.find.result c.find.ensures.none c.find.ensures.some
