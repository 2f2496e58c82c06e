use Rattle.std.proofs.Common.{subst, sym}
use Rattle.c_memory.specs.Tags.{AreTags}
use Rattle.c_memory.proofs.Cells.{tags_viewed, view_fits}
use Rattle.c_memory.proofs.heap_laws.view_is_a_heap.Goals as goal

pub returns : goal.returns
returns c l m h tagged = (subst (λ ts. AreTags l ts) (sym (tags_viewed l m.bytes m.tags)) tagged.tags, view_fits l h m.bytes tagged.bytes m.tags tagged.tags)
