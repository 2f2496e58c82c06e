-- What is no scalar has none.
use Rattle.std.proofs.Common.{◌≡◌, inl, inr, None, sym, ap, ◌∙◌}
use Rattle.c_values.specs.Layout.{shape_of}
use Rattle.c_values.specs.CodeTypes.{type_of}
use Rattle.expression_lang.specs.CodeExpression.{path_of}
use Rattle.expression_lang.specs.CodeSort.{scope_by}
use Rattle.expression_lang.specs.Sort.{shape_along}
use Rattle.assertion_walks.proofs.ScalarEnds.{scalar_only, scalar_end}
use Rattle.assertion_walks.proofs.scalars.scalar_at.Goals as goal

pub returns-in-Void : goal.returns-in-Void
returns-in-Void g c =
    let none : None ≡ scalar_only (type_of c.in-Some.end.now) =
    elim c.in-Void.is [
      | inl i ↦ sym (ap (λ t. scalar_only (type_of t)) i)
      | inr o ↦ elim o [
        | inl i ↦ sym (ap (λ t. scalar_only (type_of t)) i.1)
        | inr i ↦ sym (ap (λ t. scalar_only (type_of t)) i.2)
      ]
    ] in
    none ∙
    scalar_end c.args.l.now (shape_along (scope_by c.args.l.now (g.N.Scope.scalars c.args.names.now) c.args.globals.now) (path_of c.args.path.now)
    (shape_of c.args.l.now (type_of c.args.t.now))) (type_of c.in-Some.end.now) c.in-Some.ensures
