use Rattle.std.proofs.Common.{ap, subst, sym, ◌∙◌}
use Rattle.ac_sx.specs.CodeSx.{tree_of}
use Rattle.simpl_lang.specs.CodeCommand.{simpl_of}
use Rattle.command_text.specs.Answer.{IsCommandText}
use Rattle.command_text.proofs.ReadBack.{command_found, command_only, command_not_refused}
use Rattle.command_text.proofs.texts.read_simpl.Goals as goal

pub returns-in-Ok-clause-found : goal.returns-in-Ok-clause-found
returns-in-Ok-clause-found c = subst (λ d. IsCommandText (tree_of c.args.tree.now) (simpl_of d)) (sym c.into_inner.ensures) (command_found (tree_of c.args.tree.now) c.in-Ok.ensures)

pub returns-in-Ok-clause-only : goal.returns-in-Ok-clause-only
returns-in-Ok-clause-only c = λ d is. ap simpl_of c.into_inner.ensures ∙ command_only d (tree_of c.args.tree.now) c.in-Ok.ensures is

pub returns-in-Err-clause-only : goal.returns-in-Err-clause-only
returns-in-Err-clause-only c = λ d is. command_not_refused d (tree_of c.args.tree.now) c.in-Err.fault c.in-Err.ensures is
