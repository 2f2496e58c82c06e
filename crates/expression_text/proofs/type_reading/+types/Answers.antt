use Rattle.std.proofs.Common.{subst, ap, ◌∙◌}
use Rattle.ac_sx.specs.CodeSx.{tree_of, trees_in}
use Rattle.c_values.specs.CodeTypes.{type_of}
use Rattle.expression_text.specs.Reading.{next}
use Rattle.expression_text.specs.CodeFault.{Gives}
use Rattle.expression_text.specs.CodeWords.{type_head_of}
use Rattle.expression_text.proofs.TypesRead.{word_given, list_given, list_refused}
use Rattle.expression_text.proofs.type_reading.+types.Goals as goal

pub type_at-returns-in-Some : goal.type_at-returns-in-Some
type_at-returns-in-Some t c = subst (Gives type_of c.plain_type_at.result) (word_given c.args.at c.in-Some.word.now (tree_of c.args.tree.now) c.in-Some.ensures) c.plain_type_at.ensures

pub type_at-returns-in-Some-type_head : goal.type_at-returns-in-Some-type_head
type_at-returns-in-Some-type_head t c =
    subst (Gives type_of c.built_type_at.result)
    (list_given c.args.at c.next-inner.result c.in-Some-headed.head.now (trees_in c.in-Some-headed.parts.now) (tree_of c.args.tree.now) (type_head_of c.in-Some-type_head.head) c.in_default.ensures c.in-Some-headed.ensures.parts c.in-Some-type_head.ensures.some (c.next-inner.ensures ∙ ap next c.next.ensures))
    c.built_type_at.ensures

pub type_at-returns-in-None : goal.type_at-returns-in-None
type_at-returns-in-None t c = list_refused c.args.at c.in-Some-headed.head.now (trees_in c.in-Some-headed.parts.now) (tree_of c.args.tree.now) c.in_default.ensures c.in-Some-headed.ensures.parts c.in-None.ensures.none
