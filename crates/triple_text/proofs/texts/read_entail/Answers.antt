use Rattle.std.proofs.Common.{ap, subst, sym, ◌∙◌}
use Rattle.ac_sx.specs.CodeSx.{tree_of}
use Rattle.triple_lang.specs.CodeEntail as entails
use Rattle.triple_text.specs.EntailText.{entail_tree, is_entail}
use Rattle.triple_text.specs.EntailReading.{entail_at}
use Rattle.triple_text.specs.Answer.{IsEntailTree}
use Rattle.triple_text.proofs.EntailLaws.{entail_reads, entail_spells}
use Rattle.triple_text.proofs.ReadBack.{only, not_refused}
use Rattle.triple_text.proofs.texts.read_entail.Goals as goal

pub returns-in-Ok-clause-found : goal.returns-in-Ok-clause-found
returns-in-Ok-clause-found c =
    subst (λ x. IsEntailTree (tree_of c.args.tree.now) (entails.tree_of x)) (sym c.into_inner.ensures) (entail_spells (tree_of c.args.tree.now) 0 (entails.tree_of c.in-Ok.entail.value) _ c.in-Ok.ensures)

pub returns-in-Ok-clause-only : goal.returns-in-Ok-clause-only
returns-in-Ok-clause-only c = λ x is.
    ap entails.tree_of c.into_inner.ensures ∙ only entail_at entail_tree is_entail entail_reads (tree_of c.args.tree.now) (entails.tree_of c.in-Ok.entail.value) _ x c.in-Ok.ensures is

pub returns-in-Err-clause-only : goal.returns-in-Err-clause-only
returns-in-Err-clause-only c = λ x is. not_refused entail_at entail_tree is_entail entail_reads x (tree_of c.args.tree.now) c.in-Err.fault c.in-Err.ensures is
