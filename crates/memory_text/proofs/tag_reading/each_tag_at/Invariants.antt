-- The tags so far, and those to come, are the whole.
use Rattle.std.proofs.Common.{◌≡◌, ◌++◌, drop, map}
use Rattle.ac_sx.specs.CodeSx.{trees_in}
use Rattle.c_memory.specs.CodeTag.{tag_of}
use Rattle.expression_text.specs.Reading.{made}
use Rattle.expression_text.specs.Lists.{list_at}
use Rattle.memory_text.specs.MemoryReading.{tag_at}
use Rattle.memory_text.proofs.tag_reading.each_tag_at.Given as goal

abbrev pub invariant-parts : goal.invariant-parts
invariant-parts l = made (λ ts. map tag_of l.tags.items ++ ts) (list_at (tag_at l.layout) l.here (trees_in (drop l.part-index l.parts))) ≡ list_at (tag_at l.layout) l.fn.at (trees_in l.fn.parts)
