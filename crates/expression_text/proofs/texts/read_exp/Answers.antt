use Rattle.ac_sx.specs.CodeSx.{tree_of}
use Rattle.expression_text.proofs.ReadBack.{exp_found, exp_only, refused_only}
use Rattle.expression_text.proofs.texts.read_exp.Goals as goal

pub returns-in-Ok-clause-found : goal.returns-in-Ok-clause-found
returns-in-Ok-clause-found c = exp_found (tree_of c.args.tree.now) c.in-Ok.ensures

pub returns-in-Ok-clause-only : goal.returns-in-Ok-clause-only
returns-in-Ok-clause-only c = λ e is. exp_only e (tree_of c.args.tree.now) c.in-Ok.ensures is

pub returns-in-Err-clause-only : goal.returns-in-Err-clause-only
returns-in-Err-clause-only c = λ e is. refused_only e (tree_of c.args.tree.now) c.in-Err.fault c.in-Err.ensures is
