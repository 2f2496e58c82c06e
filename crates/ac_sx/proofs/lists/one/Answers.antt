use Rattle.ac_sx.specs.CodeSx.{trees_in}
use Rattle.ac_sx.proofs.Listed.{one_of-more}
use Rattle.ac_sx.proofs.lists.one.Goals as goal

pub returns-else-is_empty-clause-parts : goal.returns-else-is_empty-clause-parts
returns-else-is_empty-clause-parts c = one_of-more (trees_in c.args.parts.now) _ c.in_ok-part.others.now c.is_empty.result c.in_ok-part.ensures.parts c.is_empty.ensures c.if-is_empty.false
