-- By how the types of both places stand to each other.
use Rattle.std.proofs.Common.{true, false, subst, sym, ◌∙◌}
use Rattle.std.proofs.lemmas.Bool.{false≢true}
use Rattle.ac_expr.proofs.ApartThere.{never}
use Rattle.expression_lang.specs.CodeExpression.{exp_of}
use Rattle.expression_lang.specs.CodeSort.{scope_by}
use Rattle.assertion_walks.specs.CodePlace.{place_in, AreScalars}
use Rattle.assertion_walks.proofs.ReadsUnmade.{of_type, of_unrelated, of_scalars, no_scalars}
use Rattle.assertion_walks.proofs.heap_written.ScopedWriting.is_read_before.Goals as goal

pub returns-then-is_type : goal.returns-then-is_type
returns-then-is_type g c =
    let it = c.args.self.now in
    let is = of_type (scope_by it.layout.now (g.N.Scope.scalars it.names.now) it.globals.now) (place_in it.writing.place)
    (exp_of it.writing.value.now) (place_in c.args.read.now) (exp_of c.args.e.now) (sym c.is_type.ensures ∙ c.if-is_type.true) in
    ((λ yes. is.0 (c.is_of_same_root.ensures.0 yes)), (λ so. c.is_of_same_root.ensures.1 (is.1 so)))

pub returns-then-not-are_related : goal.returns-then-not-are_related
returns-then-not-are_related g c =
    let it = c.args.self.now in
    let is = of_unrelated (scope_by it.layout.now (g.N.Scope.scalars it.names.now) it.globals.now) (place_in it.writing.place)
    (exp_of it.writing.value.now) (place_in c.args.read.now) (exp_of c.args.e.now) (sym c.is_type.ensures ∙ c.if-is_type.false)
    (never c.are_related.result c.are_related.ensures c.if-not-are_related.true) in
    ((λ yes. is.0 (c.is_read.ensures.0 yes)), (λ so. c.is_read.ensures.1 (is.1 so)))

pub returns-in-None : goal.returns-in-None
returns-in-None g c =
    let it = c.args.self.now in (
      (λ yes. absurd (false≢true yes)),
      (λ so. absurd (no_scalars (scope_by it.layout.now (g.N.Scope.scalars it.names.now) it.globals.now) (place_in it.writing.place)
          (exp_of it.writing.value.now) (place_in c.args.read.now) (exp_of c.args.e.now) (sym c.is_type.ensures ∙ c.if-is_type.false)
          (c.are_related.ensures.0 c.if-not-are_related.false) c.in-None.ensures.none so)),
    )

pub returns-then-same : goal.returns-then-same
returns-then-same g c =
    let it = c.args.self.now in
    let scope = scope_by it.layout.now (g.N.Scope.scalars it.names.now) it.globals.now in
    let w = place_in it.writing.place in
    let r = place_in c.args.read.now in
    let is = of_scalars scope w (exp_of it.writing.value.now) r (exp_of c.args.e.now) true (sym c.is_type.ensures ∙ c.if-is_type.false)
    (c.are_related.ensures.0 c.if-not-are_related.false) (subst (λ s. AreScalars scope w r s) c.if-same.true c.in-Some.ensures.some) in
    ((λ yes. is.0 (c.is_of_same_scalar.ensures.0 yes)), (λ so. c.is_of_same_scalar.ensures.1 (is.1 so)))

pub returns-else-same : goal.returns-else-same
returns-else-same g c =
    let it = c.args.self.now in
    let scope = scope_by it.layout.now (g.N.Scope.scalars it.names.now) it.globals.now in
    let w = place_in it.writing.place in
    let r = place_in c.args.read.now in
    let is = of_scalars scope w (exp_of it.writing.value.now) r (exp_of c.args.e.now) false (sym c.is_type.ensures ∙ c.if-is_type.false)
    (c.are_related.ensures.0 c.if-not-are_related.false) (subst (λ s. AreScalars scope w r s) c.if-same.false c.in-Some.ensures.some) in
    ((λ yes. is.0 (c.is_read-else-same.ensures.0 yes)), (λ so. c.is_read-else-same.ensures.1 (is.1 so)))
