use Rattle.ac_sx.specs.CodeSx.{trees_in}
use Rattle.expression_text.specs.Lists.{list_at}
use Rattle.expression_text.proofs.ListsRead.{list_more}
use Rattle.triple_lang.specs.CodeDeriv.{logical_of}
use Rattle.triple_text.specs.TripleReading.{logical_at}
use Rattle.triple_text.proofs.logicals.each_logical_at.Goals as goal

pub parts-preserved : goal.parts-preserved
parts-preserved c =
    list_more logical_of logical_at c.parts.logicals.items c.push.new.self.items c.in_ok-logical.logical c.parts.here c.in_ok-logical.behind c.args.parts.now c.parts.part-index c.part-item.result (list_at logical_at c.args.at (trees_in c.args.parts.now))
    c.parts-test.true c.part-item.is c.in_ok-push.ensures.items c.in_ok-logical.ensures c.parts.invariant
