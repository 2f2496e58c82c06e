use Rattle.ac_sx.specs.CodeSx.{trees_in}
use Rattle.expression_text.specs.Lists.{list_at}
use Rattle.expression_text.proofs.ListsRead.{list_more}
use Rattle.simpl_lang.specs.CodeCommand.{condition_of}
use Rattle.command_text.specs.CommandReading.{condition_at}
use Rattle.command_text.proofs.conditions.each_condition_at.Goals as goal

pub parts-preserved : goal.parts-preserved
parts-preserved c =
    list_more condition_of condition_at c.parts.conditions.items c.push.new.self.items c.in_ok-condition.condition c.parts.at c.in_ok-condition.behind c.args.parts.now c.parts.part-index c.part-item.result (list_at condition_at c.args.at (trees_in c.args.parts.now))
    c.parts-test.true c.part-item.is c.in_ok-push.ensures.items c.in_ok-condition.ensures c.parts.invariant
