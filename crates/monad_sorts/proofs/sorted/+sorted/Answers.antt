-- A step along the last parts.
use Rattle.std.proofs.Common.{◌+◌, ◌&&◌, sym, ap, ◌∙◌, arith}
use Rattle.monad_lang.specs.CodeProgram.{mon_of}
use Rattle.monad_sorts.specs.CodeTold.{names_into, names_after}
use Rattle.monad_sorts.specs.CodeSorted.{is_sorted}
use Rattle.monad_sorts.specs.CodeInside.{setting_in, scalars_in, no_names}
use Rattle.monad_sorts.proofs.Passing.{front_sorted, step_sorted, step_last, all_sorted}
use Rattle.monad_sorts.proofs.sorted.+sorted.Goals as goal

pub is_sorted-returns-in_default : goal.is_sorted-returns-in_default
is_sorted-returns-in_default t c =
    let s = setting_in c.args.setting no_names in
    let here = names_after s c.along.steps (scalars_in c.args.inside.now) (mon_of c.args.m.now) in
    c.is_front_sorted.ensures
    ∙ all_sorted (setting_in c.args.setting here) (mon_of c.along.rest.now) (sym c.in_default.ensures.same)
    ∙ c.along.invariant.same

pub is_sorted-returns-then-not-is_front_sorted : goal.is_sorted-returns-then-not-is_front_sorted
is_sorted-returns-then-not-is_front_sorted t c =
    let s = setting_in c.args.setting no_names in
    let here = names_after s c.along.steps (scalars_in c.args.inside.now) (mon_of c.args.m.now) in
    let last = mon_of c.in-Some.last.now in
    sym (ap (λ b. b && is_sorted (setting_in c.args.setting (names_into s here (mon_of c.along.rest.now))) last)
    (sym c.is_front_sorted-in-along.ensures ∙ c.if-not-is_front_sorted.true))
    ∙ sym (front_sorted s here (mon_of c.along.rest.now) last (sym c.in-Some.ensures.same))
    ∙ c.along.invariant.same

pub is_sorted-returns-then-steps : goal.is_sorted-returns-then-steps
is_sorted-returns-then-steps t c =
    let s = setting_in c.args.setting no_names in
    let here = names_after s c.along.steps (scalars_in c.args.inside.now) (mon_of c.args.m.now) in
    let last = mon_of c.in-Some.last.now in
    c.is_sorted.ensures
    ∙ sym (ap (λ b. b && is_sorted (setting_in c.args.setting (names_into s here (mon_of c.along.rest.now))) last)
    (sym c.is_front_sorted-in-along.ensures ∙ c.if-not-is_front_sorted.false))
    ∙ sym (front_sorted s here (mon_of c.along.rest.now) last (sym c.in-Some.ensures.same))
    ∙ c.along.invariant.same

pub is_sorted-along-preserved : goal.is_sorted-along-preserved
is_sorted-along-preserved t c =
    let s = setting_in c.args.setting no_names in
    let m = mon_of c.args.m.now in
    let rest = mon_of c.along.rest.now in
    let last = mon_of c.in-Some.last.now in
    record {
      same =
          sym (ap (λ b. b && is_sorted
          (setting_in c.args.setting (names_after s (c.along.steps + 1) (scalars_in c.args.inside.now) m)) last)
          (sym c.is_front_sorted-in-along.ensures ∙ c.if-not-is_front_sorted.false))
          ∙ sym (step_sorted s (scalars_in c.args.inside.now) c.along.steps m rest last c.along.invariant.part
          (sym c.in-Some.ensures.same))
          ∙ c.along.invariant.same;
      part = step_last c.along.steps m rest last c.along.invariant.part (sym c.in-Some.ensures.same);
      smaller = let fewer = c.in-Some.ensures.smaller in omega arith;
    }
