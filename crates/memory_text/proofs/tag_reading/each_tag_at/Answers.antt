use Rattle.ac_sx.specs.CodeSx.{trees_in}
use Rattle.c_memory.specs.CodeTag.{tag_of}
use Rattle.expression_text.specs.Lists.{list_at}
use Rattle.expression_text.proofs.ListsRead.{list_more}
use Rattle.memory_text.specs.MemoryReading.{tag_at}
use Rattle.memory_text.proofs.tag_reading.each_tag_at.Goals as goal

pub parts-preserved : goal.parts-preserved
parts-preserved c =
    list_more tag_of (tag_at c.args.layout.now) c.parts.tags.items c.push.new.self.items c.in_ok-tag.tag c.parts.here c.in_ok-tag.behind c.args.parts.now c.parts.part-index c.part-item.result (list_at (tag_at c.args.layout.now) c.args.at (trees_in c.args.parts.now))
    c.parts-test.true c.part-item.is c.in_ok-push.ensures.items c.in_ok-tag.ensures c.parts.invariant
