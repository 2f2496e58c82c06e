use Rattle.std.proofs.Common.{ap}
use Rattle.c_memory.specs.Tags.{is_covered}
use Rattle.c_memory.proofs.Cells.{tags_viewed}
use Rattle.c_memory.proofs.heap_laws.view_covers_the_same.Goals as goal

pub returns : goal.returns
returns c l m t a = ap (λ ts. is_covered l ts t a) (tags_viewed l m.bytes m.tags)
