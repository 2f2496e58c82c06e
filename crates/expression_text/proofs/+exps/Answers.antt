use Rattle.std.proofs.Common.{ap, subst, sym, ◌∙◌, arith}
use Rattle.ac_sx.specs.CodeSx.{tree_of, trees_in}
use Rattle.expression_lang.specs.CodeExpression.{exp_of}
use Rattle.expression_lang.specs.CodeShapeView.{with_step}
use Rattle.expression_text.specs.Reading.{next}
use Rattle.expression_text.specs.CodeFault.{Gives}
use Rattle.expression_text.specs.CodeRow.{row_in}
use Rattle.expression_text.specs.ExpReading.{steps_at}
use Rattle.expression_text.proofs.ExpsRead.{word_given, list_given, list_refused, field_given, element_given, step_refused, step_more, nodes_in}
use Rattle.expression_text.proofs.+exps.Goals as goal

pub exp_reading::exp_at-returns-in-Some : goal.exp_reading::exp_at-returns-in-Some
exp_reading::exp_at-returns-in-Some t c = subst (Gives exp_of c.leaf_at.result) (word_given c.args.at c.in-Some.word.now (tree_of c.args.tree.now) c.in-Some.ensures) c.leaf_at.ensures

pub exp_reading::exp_at-returns-in-Some-head_of : goal.exp_reading::exp_at-returns-in-Some-head_of
exp_reading::exp_at-returns-in-Some-head_of t c =
    subst (Gives exp_of c.row_at.result)
    (list_given c.args.at c.next-in-Some-head_of.result c.in-Some-headed.word.now (trees_in c.in-Some-headed.parts.now) (tree_of c.args.tree.now) c.in-Some-head_of.head (row_in c.row.result)
    c.in_default.ensures c.in-Some-headed.ensures.parts c.in-Some-head_of.ensures.some (c.next-in-Some-head_of.ensures ∙ ap next c.next.ensures) c.row.ensures)
    c.row_at.ensures

pub exp_reading::exp_at-returns-in-None : goal.exp_reading::exp_at-returns-in-None
exp_reading::exp_at-returns-in-None t c = list_refused c.args.at c.in-Some-headed.word.now (trees_in c.in-Some-headed.parts.now) (tree_of c.args.tree.now) c.in_default.ensures c.in-Some-headed.ensures.parts c.in-None.ensures.none

pub path_reading::step_at-returns-then-eq : goal.path_reading::step_at-returns-then-eq
path_reading::step_at-returns-then-eq t c =
    subst (Gives with_step c.field_step.result)
    (field_given c.args.at c.next-inner.result c.in-Some.head.now (trees_in c.in-Some.parts.now) (tree_of c.args.tree.now) c.in-Some.ensures.parts (sym c.eq.ensures ∙ c.if-eq.true) (c.next-inner.ensures ∙ ap next c.next.ensures))
    c.field_step.ensures

pub path_reading::step_at-returns-then-eq-2 : goal.path_reading::step_at-returns-then-eq-2
path_reading::step_at-returns-then-eq-2 t c =
    subst (Gives with_step c.element_step.result)
    (element_given c.args.at c.next-inner.result c.in-Some.head.now (trees_in c.in-Some.parts.now) (tree_of c.args.tree.now) c.in-Some.ensures.parts (sym c.eq.ensures ∙ c.if-eq.false) (sym c.eq-else-eq.ensures ∙ c.if-eq-2.true) (c.next-inner.ensures ∙ ap next c.next.ensures))
    c.element_step.ensures

pub path_reading::step_at-returns-else-eq-2 : goal.path_reading::step_at-returns-else-eq-2
path_reading::step_at-returns-else-eq-2 t c = step_refused c.args.at c.in-Some.head.now (trees_in c.in-Some.parts.now) (tree_of c.args.tree.now) c.in-Some.ensures.parts (sym c.eq.ensures ∙ c.if-eq.false) (sym c.eq-else-eq.ensures ∙ c.if-eq-2.false)

pub path_reading::steps_at-step_at-requires : goal.path_reading::steps_at-step_at-requires
path_reading::steps_at-step_at-requires t c =
    let less = nodes_in c.args.steps.now c.steps.step-index c.step-item.result c.steps-test.true c.step-item.is in
    (omega (arith, less, c.decreases), tt)

pub path_reading::steps_at-steps-preserved : goal.path_reading::steps_at-steps-preserved
path_reading::steps_at-steps-preserved t c =
    step_more c.steps.fronts.items c.push.new.self.items c.in_ok-front.front c.steps.at c.in_ok-front.behind c.args.steps.now c.steps.step-index c.step-item.result (steps_at c.args.at (trees_in c.args.steps.now))
    c.steps-test.true c.step-item.is c.in_ok-push.ensures.items c.in_ok-front.ensures c.steps.invariant
