-- A program gives one value where one is counted.
use Rattle.std.proofs.Common.{[], ◌∷◌, Some, sym, ap, ap₂, ◌∙◌}
use Rattle.expression_lang.specs.Sort.{Scalar}
use Rattle.expression_lang.specs.CodeExpression.{kind_of}
use Rattle.program_sorts.specs.CodeSorts.{sort_for}
use Rattle.monad_lang.specs.CodeProgram.{mon_of}
use Rattle.monad_sorts.specs.CodeTold.{values_told}
use Rattle.monad_sorts.specs.CodeSorted.{is_same}
use Rattle.monad_sorts.specs.CodeInside.{setting_in, scalars_in}
use Rattle.monad_sorts.proofs.SameValues.{one_same, other_number}
use Rattle.monad_sorts.proofs.ValuesTold.{count_is}
use Rattle.monad_sorts.proofs.sorted.gives_one.Goals as goal

pub returns : goal.returns
returns c =
    let t = setting_in c.args.setting (scalars_in c.args.inside.now) in
    let many = count_is (mon_of c.args.m.now) t in
    c.is_same.ensures
    ∙ ap₂ is_same (ap (λ (s : Scalar). Some s) c.scalar.ensures) c.scalar_of_value.ensures
    ∙ sym (one_same (Some (sort_for c.args.setting.phase (kind_of c.args.kind))) (values_told t (mon_of c.args.m.now))
    (many ∙ sym c.count_of.ensures ∙ c.if-count_of-ne1.false))

pub returns-then-count_of-ne1 : goal.returns-then-count_of-ne1
returns-then-count_of-ne1 c =
    let t = setting_in c.args.setting (scalars_in c.args.inside.now) in
    let many = count_is (mon_of c.args.m.now) t in
    sym (other_number (Some (sort_for c.args.setting.phase (kind_of c.args.kind)) ∷ []) (values_told t (mon_of c.args.m.now))
    (λ e. c.if-count_of-ne1.true (c.count_of.ensures ∙ sym many ∙ sym e)))
