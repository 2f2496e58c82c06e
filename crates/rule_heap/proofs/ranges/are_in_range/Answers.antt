-- An index that isn't known to be in range is of no path that is.
use Rattle.std.proofs.Common.{List}
use Rattle.std.proofs.lemmas.Bool.{false≢true}
use Rattle.c_values.specs.Layout.{Shape, shape_of}
use Rattle.c_values.specs.CodeTypes.{type_of}
use Rattle.expression_lang.specs.Expression.{Path, IntoElement}
use Rattle.expression_lang.specs.CodeExpression.{exp_of, path_of}
use Rattle.ac_expr.specs.Fact.{Fact}
use Rattle.rule_heap.specs.Table.{AreInRange}
use Rattle.rule_heap.specs.CodeRule.{facts_at}
use Rattle.std.proofs.Common.{subst}
use Rattle.rule_heap.proofs.ranges.are_in_range.Goals as goal

pub returns-in_default-element : goal.returns-in_default-element
returns-in_default-element c =
    let fs : List Fact = facts_at c.args.context in
    let s : Shape = shape_of c.args.context.layout.now (type_of c.steps.whole.now) in
    let none : (path : Path) → AreInRange fs (IntoElement (exp_of c.in-Index.index.value) path) s → ⊥ =
    subst (λ q. (path : Path) → AreInRange fs (IntoElement (exp_of q) path) s → ⊥) c.deref.ensures c.in_default-element.ensures.none in
    ((λ h. absurd (false≢true h)), (λ h. absurd (none (path_of c.in-Index.next.value) (subst (λ q. AreInRange fs (path_of q) s) c.in-Index.is (c.steps.invariant.1 h)))))
