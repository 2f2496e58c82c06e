use Rattle.std.proofs.Common.{ap, subst, sym, ◌∙◌}
use Rattle.ac_sx.specs.CodeSx.{tree_of}
use Rattle.monad_lang.specs.CodeProgram.{mon_of}
use Rattle.program_text.specs.Answer.{IsMonText}
use Rattle.program_text.proofs.ReadBack.{mon_found, mon_only, mon_not_refused}
use Rattle.program_text.proofs.texts.read_mon.Goals as goal

pub returns-in-Ok-clause-found : goal.returns-in-Ok-clause-found
returns-in-Ok-clause-found c = subst (λ m. IsMonText (tree_of c.args.tree.now) (mon_of m)) (sym c.into_inner.ensures) (mon_found (tree_of c.args.tree.now) c.in-Ok.ensures)

pub returns-in-Ok-clause-only : goal.returns-in-Ok-clause-only
returns-in-Ok-clause-only c = λ m is. ap mon_of c.into_inner.ensures ∙ mon_only m (tree_of c.args.tree.now) c.in-Ok.ensures is

pub returns-in-Err-clause-only : goal.returns-in-Err-clause-only
returns-in-Err-clause-only c = λ m is. mon_not_refused m (tree_of c.args.tree.now) c.in-Err.fault c.in-Err.ensures is
