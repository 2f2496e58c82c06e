use Rattle.ac_sx.specs.CodeSx.{trees_in}
use Rattle.expression_lang.specs.CodeExpression.{exp_of}
use Rattle.expression_text.specs.ExpReading.{exp_at}
use Rattle.expression_text.specs.Lists.{exps_at}
use Rattle.expression_text.proofs.ListsRead.{list_more}
use Rattle.expression_text.proofs.list_reading.exps_at.Goals as goal

pub parts-preserved : goal.parts-preserved
parts-preserved c =
    list_more exp_of exp_at c.parts.exps.items c.push.new.self.items c.in_ok-exp.exp c.parts.at c.in_ok-exp.behind c.args.parts.now c.parts.part-index c.part-item.result (exps_at c.args.at (trees_in c.args.parts.now))
    c.parts-test.true c.part-item.is c.in_ok-push.ensures.items c.in_ok-exp.ensures c.parts.invariant
