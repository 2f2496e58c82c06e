-- The last that is left has the name, or is left out.
use Rattle.std.proofs.Common.{sym, ap, ◌∙◌}
use Rattle.c_values.specs.Name.{Name, same_name}
use Rattle.triple_lang.specs.CodeDeriv.{logical_of}
use Rattle.hoare_check.proofs.LogicalNames.{logical_is}
use Rattle.hoare_check.proofs.triple_names.WithLogicalsScope.scalar.Goals as goal

pub returns-then-eq : goal.returns-then-eq
returns-then-eq g c =
    let same = ap (λ (x : Name). same_name x c.args.name.now) (sym c.as_str.ensures.value) ∙ sym c.eq.ensures ∙ c.if-eq.true in
    sym (logical_is logical_of c.along.rest.now c.in-Some.others.now c.in-Some.last.now c.args.name.now
    (λ y. g.N.Scope.scalars c.args.self.now.outer.now y) _ c.in-Some.ensures.cases.0 same)
    ∙ c.along.invariant

pub along-preserved : goal.along-preserved
along-preserved g c =
    let other = ap (λ (x : Name). same_name x c.args.name.now) (sym c.as_str.ensures.value) ∙ sym c.eq.ensures ∙ c.if-eq.false in
    sym (logical_is logical_of c.along.rest.now c.in-Some.others.now c.in-Some.last.now c.args.name.now
    (λ y. g.N.Scope.scalars c.args.self.now.outer.now y) _ c.in-Some.ensures.cases.0 other)
    ∙ c.along.invariant
