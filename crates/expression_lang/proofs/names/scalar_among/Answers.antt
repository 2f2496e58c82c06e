-- The last binder that is left has the name, or is left out.
use Rattle.std.proofs.Common.{Some, sym, ap, ◌∙◌}
use Rattle.c_values.specs.Name.{Name, same_name}
use Rattle.expression_lang.specs.Sort.{Scalar}
use Rattle.expression_lang.proofs.NamesFound.{binder_here, binder_left_out}
use Rattle.expression_lang.proofs.names.scalar_among.Goals as goal

pub returns-then-eq-clause-some : goal.returns-then-eq-clause-some
returns-then-eq-clause-some c names =
    let same = ap (λ (x : Name). same_name x c.args.name.now) (sym c.as_str.ensures.value) ∙ sym c.eq.ensures ∙ c.if-eq.true in
    c.binders.invariant names
    ∙ binder_here c.binders.rest.now c.in-Some.others.now c.in-Some.last.now c.args.name.now c.in-Some.ensures.cases.0 same names
    ∙ ap (λ (s : Scalar). Some s) (sym c.scalar_of_kind.ensures)

pub binders-preserved : goal.binders-preserved
binders-preserved c names =
    let other = ap (λ (x : Name). same_name x c.args.name.now) (sym c.as_str.ensures.value) ∙ sym c.eq.ensures ∙ c.if-eq.false in
    c.binders.invariant names
    ∙ binder_left_out c.binders.rest.now c.in-Some.others.now c.in-Some.last.now c.args.name.now names c.in-Some.ensures.cases.0 other
