-- Where there is no such element, there are no such indexes.
use Rattle.std.proofs.Common.{rules, ◌≡◌, subst}
use Rattle.std.proofs.lemmas.Bool.{false≢true}
use Rattle.c_values.specs.Layout.{shape_of}
use Rattle.c_values.specs.CodeTypes.{type_of}
use Rattle.expression_lang.specs.Expression.{IntoElement}
use Rattle.expression_lang.specs.CodeExpression.{exp_of, path_of}
use Rattle.assertion_walks.specs.CodeScalar.{HasNoElementAt}
use Rattle.assertion_walks.specs.Written.{HasIndexes}
use Rattle.assertion_walks.proofs.ScalarEnds.{no_element}
use Rattle.assertion_walks.proofs.scalars.has_indexes.Goals as goal

pub returns-in_default-element_at : goal.returns-in_default-element_at
returns-in_default-element_at c =
    let s = shape_of c.args.l.now (type_of c.steps.whole.now) in
    let index : exp_of c.deref.result.now ≡ exp_of c.in-Index.index.value = search rules in
    let none : HasNoElementAt (exp_of c.in-Index.index.value) s =
    subst (λ i. HasNoElementAt i s) index c.in_default-element_at.ensures.none in (
      (λ yes. absurd (false≢true yes)),
      (λ so.
          let there : HasIndexes (IntoElement (exp_of c.in-Index.index.value) (path_of c.in-Index.next.value)) s =
          subst (λ p. HasIndexes (path_of p) s) c.in-Index.is (c.steps.invariant.1 so) in
          absurd (no_element _ (path_of c.in-Index.next.value) s none there)),
    )
