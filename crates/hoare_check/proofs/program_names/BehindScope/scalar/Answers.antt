-- The last that is left has the name, and what is told of the value at its place; or it is left out.
use Rattle.std.proofs.Common.{string_bytes, sym, ap, ◌∙◌}
use Rattle.c_values.specs.Name.{Name, same_name}
use Rattle.monad_lang.specs.CodeProgram.{mon_of}
use Rattle.monad_sorts.specs.CodeInside.{setting_in}
use Rattle.monad_sorts.specs.CodeTold.{values_told}
use Rattle.monad_sorts.proofs.Positions.{name_here, name_left_out}
use Rattle.triple_lang.specs.Deriv.{Names}
use Rattle.hoare_check.proofs.program_names.BehindScope.scalar.Goals as goal

pub returns-then-eq : goal.returns-then-eq
returns-then-eq g c =
    let outer : Names = λ y. g.N.Scope.scalars c.args.self.now.outer.now y in
    let told = values_told (setting_in c.args.self.now.setting outer) (mon_of c.args.self.now.program.now) in
    let same = ap (λ (x : Name). same_name x c.args.name.now) (sym c.as_str.ensures.value) ∙ sym c.eq.ensures ∙ c.if-eq.true in
    c.scalar_told.ensures ∙ c.tell_value.ensures outer
    ∙ sym (name_here string_bytes c.along.rest.now c.in-Some.others.now c.in-Some.last.now c.args.name.now c.in-Some.ensures.cases.0 same told outer)
    ∙ c.along.invariant

pub along-preserved : goal.along-preserved
along-preserved g c =
    let outer : Names = λ y. g.N.Scope.scalars c.args.self.now.outer.now y in
    let told = values_told (setting_in c.args.self.now.setting outer) (mon_of c.args.self.now.program.now) in
    let other = ap (λ (x : Name). same_name x c.args.name.now) (sym c.as_str.ensures.value) ∙ sym c.eq.ensures ∙ c.if-eq.false in
    sym (name_left_out string_bytes c.along.rest.now c.in-Some.others.now c.in-Some.last.now c.args.name.now told outer c.in-Some.ensures.cases.0 other)
    ∙ c.along.invariant
