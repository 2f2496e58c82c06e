use Rattle.std.proofs.Common.{ap, subst, ◌∙◌}
use Rattle.ac_sx.specs.CodeSx.{tree_of, trees_in}
use Rattle.expression_text.specs.Reading.{next}
use Rattle.expression_text.specs.CodeFault.{Gives}
use Rattle.triple_lang.specs.CodeDeriv as derivs
use Rattle.triple_text.proofs.DerivRows.{deriv_given, deriv_refused}
use Rattle.triple_text.proofs.deriv_reading.+derivs.Goals as goal

pub deriv_at-returns-in-Some-deriv_head : goal.deriv_at-returns-in-Some-deriv_head
deriv_at-returns-in-Some-deriv_head t c =
    subst (Gives (λ d. derivs.tree_of d.value) c.row_at.result)
    (deriv_given c.args.at c.next-in-Some-deriv_head.result c.in-Some.word.now (trees_in c.in-Some.parts.now) (tree_of c.args.tree.now) c.in-Some-deriv_head.head c.in-Some.ensures.parts c.in-Some-deriv_head.ensures.some
    (c.next-in-Some-deriv_head.ensures ∙ ap next c.next.ensures))
    c.row_at.ensures

pub deriv_at-returns-in-None : goal.deriv_at-returns-in-None
deriv_at-returns-in-None t c = deriv_refused c.args.at c.in-Some.word.now (trees_in c.in-Some.parts.now) (tree_of c.args.tree.now) c.in-Some.ensures.parts c.in-None.ensures.none
