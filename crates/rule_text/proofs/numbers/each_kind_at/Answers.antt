use Rattle.ac_sx.specs.CodeSx.{trees_in}
use Rattle.expression_lang.specs.CodeExpression.{kind_of}
use Rattle.expression_text.specs.Lists.{list_at}
use Rattle.expression_text.proofs.ListsRead.{list_more}
use Rattle.program_text.specs.Kinds.{kind_at}
use Rattle.rule_text.proofs.numbers.each_kind_at.Goals as goal

pub parts-preserved : goal.parts-preserved
parts-preserved c =
    list_more kind_of kind_at c.parts.kinds.items c.push.new.self.items c.in_ok-kind.kind c.parts.here c.in_ok-kind.behind c.args.parts.now c.parts.part-index c.part-item.result (list_at kind_at c.args.at (trees_in c.args.parts.now))
    c.parts-test.true c.part-item.is c.in_ok-push.ensures.items c.in_ok-kind.ensures c.parts.invariant
