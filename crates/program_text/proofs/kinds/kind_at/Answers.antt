use Rattle.ac_sx.specs.CodeSx.{tree_of, trees_in}
use Rattle.program_text.proofs.KindLaws.{kind_refused}
use Rattle.program_text.proofs.kinds.kind_at.Goals as goal

pub returns-in-None : goal.returns-in-None
returns-in-None c = kind_refused c.args.at c.in-Some-headed.head.now (trees_in c.in-Some-headed.parts.now) (tree_of c.args.tree.now) c.in_default.ensures c.in-Some-headed.ensures.parts c.in-None.ensures.none
