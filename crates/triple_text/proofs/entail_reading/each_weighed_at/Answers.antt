use Rattle.ac_sx.specs.CodeSx.{trees_in}
use Rattle.expression_text.specs.Lists.{list_at}
use Rattle.expression_text.proofs.ListsRead.{list_more}
use Rattle.triple_lang.specs.CodeEntail.{weighed_of}
use Rattle.triple_text.specs.EntailReading.{weighed_at}
use Rattle.triple_text.proofs.entail_reading.each_weighed_at.Goals as goal

pub parts-preserved : goal.parts-preserved
parts-preserved c =
    list_more weighed_of weighed_at c.parts.facts.items c.push.new.self.items c.in_ok-fact.fact c.parts.here c.in_ok-fact.behind c.args.parts.now c.parts.part-index c.part-item.result (list_at weighed_at c.args.at (trees_in c.args.parts.now))
    c.parts-test.true c.part-item.is c.in_ok-push.ensures.items c.in_ok-fact.ensures c.parts.invariant
