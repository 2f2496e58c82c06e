use Rattle.ac_sx.specs.CodeSx.{trees_in}
use Rattle.expression_text.specs.Lists.{list_at}
use Rattle.expression_text.proofs.ListsRead.{list_more}
use Rattle.triple_lang.specs.CodeDeriv.{triple_of}
use Rattle.triple_text.specs.TripleReading.{triple_at}
use Rattle.triple_text.proofs.triple_reading.each_triple_at.Goals as goal

pub parts-preserved : goal.parts-preserved
parts-preserved c =
    list_more triple_of triple_at c.parts.triples.items c.push.new.self.items c.in_ok-triple.triple c.parts.here c.in_ok-triple.behind c.args.parts.now c.parts.part-index c.part-item.result (list_at triple_at c.args.at (trees_in c.args.parts.now))
    c.parts-test.true c.part-item.is c.in_ok-push.ensures.items c.in_ok-triple.ensures c.parts.invariant
