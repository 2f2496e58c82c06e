use Rattle.ac_sx.specs.CodeSx.{tree_of}
use Rattle.command_text.proofs.PartLaws.{guard_kind_refused}
use Rattle.command_text.proofs.conditions.guard_kind_at.Goals as goal

pub returns-in-None : goal.returns-in-None
returns-in-None c = guard_kind_refused (tree_of c.args.tree.now) c.in-Some.word.now c.args.at c.in-Some.ensures c.in-None.ensures.none
