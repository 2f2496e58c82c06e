-- The last that is left has the name, or is left out.
use Rattle.std.proofs.Common.{Some, sym, ap, ◌∙◌}
use Rattle.c_values.specs.Name.{Name, same_name}
use Rattle.expression_lang.specs.Sort.{Scalar}
use Rattle.program_sorts.specs.declared.phases.Phase.TheVariants.{OnNumbers}
use Rattle.monad_sorts.specs.CodeInside.{no_names}
use Rattle.monad_sorts.proofs.Positions.{parameter_is}
use Rattle.hoare_check.proofs.triple_names.ParametersScope.scalar.Goals as goal

pub returns-then-eq : goal.returns-then-eq
returns-then-eq c =
    let same = ap (λ (x : Name). same_name x c.args.name.now) (sym c.as_str.ensures.value) ∙ sym c.eq.ensures ∙ c.if-eq.true in
    ap (λ (s : Scalar). Some s) c.scalar.ensures
    ∙ sym (parameter_is OnNumbers c.along.rest.now c.in-Some.others.now c.in-Some.last.now c.args.name.now no_names _ c.in-Some.ensures.cases.0 same)
    ∙ c.along.invariant

pub along-preserved : goal.along-preserved
along-preserved c =
    let other = ap (λ (x : Name). same_name x c.args.name.now) (sym c.as_str.ensures.value) ∙ sym c.eq.ensures ∙ c.if-eq.false in
    sym (parameter_is OnNumbers c.along.rest.now c.in-Some.others.now c.in-Some.last.now c.args.name.now no_names _ c.in-Some.ensures.cases.0 other)
    ∙ c.along.invariant
