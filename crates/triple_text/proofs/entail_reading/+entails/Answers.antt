use Rattle.std.proofs.Common.{ap, subst, ◌∙◌}
use Rattle.ac_sx.specs.CodeSx.{tree_of, trees_in}
use Rattle.expression_text.specs.Reading.{next}
use Rattle.expression_text.specs.CodeFault.{Gives}
use Rattle.triple_lang.specs.CodeEntail as entails
use Rattle.triple_text.proofs.EntailRows.{word_given, list_given, list_refused}
use Rattle.triple_text.proofs.entail_reading.+entails.Goals as goal

pub entail_at-returns-in-Some : goal.entail_at-returns-in-Some
entail_at-returns-in-Some t c = subst (Gives (λ e. entails.tree_of e.value) c.word_at.result) (word_given c.args.at c.in-Some.word.now (tree_of c.args.tree.now) c.in-Some.ensures) c.word_at.ensures

pub entail_at-returns-in-Some-entail_head : goal.entail_at-returns-in-Some-entail_head
entail_at-returns-in-Some-entail_head t c =
    subst (Gives (λ e. entails.tree_of e.value) c.row_at.result)
    (list_given c.args.at c.next-in-Some-entail_head.result c.in-Some-headed.word.now (trees_in c.in-Some-headed.parts.now) (tree_of c.args.tree.now) c.in-Some-entail_head.head
    c.in_default.ensures c.in-Some-headed.ensures.parts c.in-Some-entail_head.ensures.some (c.next-in-Some-entail_head.ensures ∙ ap next c.next.ensures))
    c.row_at.ensures

pub entail_at-returns-in-None : goal.entail_at-returns-in-None
entail_at-returns-in-None t c = list_refused c.args.at c.in-Some-headed.word.now (trees_in c.in-Some-headed.parts.now) (tree_of c.args.tree.now) c.in_default.ensures c.in-Some-headed.ensures.parts c.in-None.ensures.none
