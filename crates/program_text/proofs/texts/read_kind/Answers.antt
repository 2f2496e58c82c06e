use Rattle.ac_sx.specs.CodeSx.{tree_of}
use Rattle.program_text.proofs.KindLaws.{kind_found, kind_only, kind_not_refused}
use Rattle.program_text.proofs.texts.read_kind.Goals as goal

pub returns-in-Ok-clause-found : goal.returns-in-Ok-clause-found
returns-in-Ok-clause-found c = kind_found (tree_of c.args.tree.now) c.in-Ok.ensures

pub returns-in-Ok-clause-only : goal.returns-in-Ok-clause-only
returns-in-Ok-clause-only c = λ k is. kind_only k (tree_of c.args.tree.now) c.in-Ok.ensures is

pub returns-in-Err-clause-only : goal.returns-in-Err-clause-only
returns-in-Err-clause-only c = λ k is. kind_not_refused k (tree_of c.args.tree.now) c.in-Err.fault c.in-Err.ensures is
