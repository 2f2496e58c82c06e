-- As many values are compared as both programs give.
use Rattle.std.proofs.Common.{sym, ap₂, ◌∙◌, arith}
use Rattle.monad_lang.specs.CodeProgram.{mon_of}
use Rattle.monad_sorts.specs.CodeTold.{values_told}
use Rattle.monad_sorts.specs.CodeSorted.{is_same}
use Rattle.monad_sorts.specs.CodeInside.{setting_in, scalars_in}
use Rattle.monad_sorts.proofs.SameValues.{same_more, differ_here, all_same, other_number}
use Rattle.monad_sorts.proofs.ValuesTold.{count_is}
use Rattle.monad_sorts.proofs.sorted.same_values.Goals as goal

pub returns-then-count-count_of : goal.returns-then-count-count_of
returns-then-count-count_of c =
    let t = setting_in c.args.setting (scalars_in c.args.inside.now) in
    let s = setting_in c.args.setting (scalars_in c.args.other_inside.now) in
    let left = count_is (mon_of c.args.m.now) t in
    let right = count_is (mon_of c.args.other.now) s in
    sym (other_number (values_told t (mon_of c.args.m.now)) (values_told s (mon_of c.args.other.now))
    (λ e. c.if-count-count_of.true (c.count_of-count.ensures ∙ sym left ∙ e ∙ right ∙ sym c.count_of.ensures)))

pub returns-then-not-is_same : goal.returns-then-not-is_same
returns-then-not-is_same c =
    let t = setting_in c.args.setting (scalars_in c.args.inside.now) in
    let s = setting_in c.args.setting (scalars_in c.args.other_inside.now) in
    let left = count_is (mon_of c.args.m.now) t ∙ sym c.count_of-count.ensures in
    let right = count_is (mon_of c.args.other.now) s ∙ sym c.count_of.ensures in
    sym (differ_here (values_told t (mon_of c.args.m.now)) (values_told s (mon_of c.args.other.now)) c.positions.k (omega arith)
    (omega arith) (sym (ap₂ is_same c.scalar_of_value-scalar.ensures c.scalar_of_value.ensures) ∙ sym
    c.is_same.ensures ∙ c.if-not-is_same.true))
    ∙ c.positions.invariant

pub positions-preserved : goal.positions-preserved
positions-preserved c =
    let t = setting_in c.args.setting (scalars_in c.args.inside.now) in
    let s = setting_in c.args.setting (scalars_in c.args.other_inside.now) in
    let left = count_is (mon_of c.args.m.now) t ∙ sym c.count_of-count.ensures in
    let right = count_is (mon_of c.args.other.now) s ∙ sym c.count_of.ensures in
    same_more (values_told t (mon_of c.args.m.now)) (values_told s (mon_of c.args.other.now)) c.positions.k (omega arith)
    (omega arith) (sym (ap₂ is_same c.scalar_of_value-scalar.ensures c.scalar_of_value.ensures) ∙ sym
    c.is_same.ensures ∙ c.if-not-is_same.false)
    ∙ c.positions.invariant

pub returns : goal.returns
returns c =
    let t = setting_in c.args.setting (scalars_in c.args.inside.now) in
    let s = setting_in c.args.setting (scalars_in c.args.other_inside.now) in
    let left = count_is (mon_of c.args.m.now) t ∙ sym c.count_of-count.ensures in
    let right = count_is (mon_of c.args.other.now) s ∙ sym c.count_of.ensures in
    sym (all_same (values_told t (mon_of c.args.m.now)) (values_told s (mon_of c.args.other.now)) c.positions.k (omega arith)
    (omega arith))
    ∙ c.positions.invariant
