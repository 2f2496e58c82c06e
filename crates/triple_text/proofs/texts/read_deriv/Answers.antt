use Rattle.std.proofs.Common.{ap, subst, sym, ◌∙◌}
use Rattle.ac_sx.specs.CodeSx.{tree_of}
use Rattle.triple_lang.specs.CodeDeriv as derivs
use Rattle.triple_text.specs.DerivText.{deriv_tree, is_deriv}
use Rattle.triple_text.specs.DerivReading.{deriv_at}
use Rattle.triple_text.specs.Answer.{IsDerivTree}
use Rattle.triple_text.proofs.DerivLaws.{deriv_reads, deriv_spells}
use Rattle.triple_text.proofs.ReadBack.{only, not_refused}
use Rattle.triple_text.proofs.texts.read_deriv.Goals as goal

pub returns-in-Ok-clause-found : goal.returns-in-Ok-clause-found
returns-in-Ok-clause-found c =
    subst (λ x. IsDerivTree (tree_of c.args.tree.now) (derivs.tree_of x)) (sym c.into_inner.ensures) (deriv_spells (tree_of c.args.tree.now) 0 (derivs.tree_of c.in-Ok.deriv.value) _ c.in-Ok.ensures)

pub returns-in-Ok-clause-only : goal.returns-in-Ok-clause-only
returns-in-Ok-clause-only c = λ x is.
    ap derivs.tree_of c.into_inner.ensures ∙ only deriv_at deriv_tree is_deriv deriv_reads (tree_of c.args.tree.now) (derivs.tree_of c.in-Ok.deriv.value) _ x c.in-Ok.ensures is

pub returns-in-Err-clause-only : goal.returns-in-Err-clause-only
returns-in-Err-clause-only c = λ x is. not_refused deriv_at deriv_tree is_deriv deriv_reads x (tree_of c.args.tree.now) c.in-Err.fault c.in-Err.ensures is
