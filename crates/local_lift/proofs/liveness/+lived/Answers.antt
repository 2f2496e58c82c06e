-- Each part by what is live before it, and what is done of what stands before a last part.
use Rattle.std.proofs.Common.{rules, ◌≡◌, List, map, sym, subst, ap, ◌∙◌, IfOk}
use Rattle.std.proofs.lemmas.Result.{IfOk-weaker}
use Rattle.expression_lang.specs.CodeExpression.{exp_of}
use Rattle.simpl_lang.specs.Command as plain
use Rattle.simpl_lang.specs.CodeCommand.{condition_of, simpl_of}
use Rattle.local_lift.specs.declared.rows.Row.{Row}
use Rattle.local_lift.specs.Live.{live}
use Rattle.local_lift.specs.CodeNames.{names}
use Rattle.local_lift.specs.CodePlan.{around, command_of, AreRight, IsRight, turn_steps, turn_own}
use Rattle.local_lift.specs.CodeRows.{flags_of, Matrix, Moves}
use Rattle.local_lift.specs.declared.plan.Fronts.{size-Fronts}
use Rattle.local_lift.proofs.PlanLaws.{left, less_left}
use Rattle.local_lift.proofs.RowLaws.{moves_then, same_moves}
use Rattle.local_lift.proofs.liveness.+lived.Goals as goal

pub lived-returns-in-Alone : goal.lived-returns-in-Alone
lived-returns-in-Alone t c =
    let e : command_of c.args.plan.now ≡ simpl_of c.in-Alone.c.now = search rules in
    subst (λ (a : plain.Simpl). IfOk c.lived_alone.result (λ v. Moves c.args.locals.now (live (names c.args.locals.now) a) c.args.rows.items v.items)) (sym e) c.lived_alone.ensures

pub lived-returns-in-Cond : goal.lived-returns-in-Cond
lived-returns-in-Cond t c =
    let e : command_of c.args.plan.now ≡ plain.Cond (exp_of c.in-Cond.test.now) (command_of c.deref.result.now) (command_of c.deref-in-Cond.result.now) = search rules in
    subst (λ (a : plain.Simpl). IfOk c.lived_choice.result (λ v. Moves c.args.locals.now (live (names c.args.locals.now) a) c.args.rows.items v.items)) (sym e) c.lived_choice.ensures

pub lived-returns-in-Catch : goal.lived-returns-in-Catch
lived-returns-in-Catch t c =
    let e : command_of c.args.plan.now ≡ plain.Catch (command_of c.deref-in-Catch.result.now) (command_of c.in-Catch.field-1.value) = search rules in
    subst (λ (a : plain.Simpl). IfOk c.lived.result (λ v. Moves c.args.locals.now (live (names c.args.locals.now) a) c.args.rows.items v.items)) (sym e) c.lived.ensures

pub lived-returns-in-While : goal.lived-returns-in-While
lived-returns-in-While t c =
    let bs = c.args.locals.now in
    let gs = map condition_of c.in-While.field-0.now in
    let test = exp_of c.in-While.field-1.now in
    let body = command_of c.in-While.field-2.value in
    let e : command_of c.args.plan.now ≡ plain.While gs test body = search rules in
    let r = subst (IsRight bs) c.in-While.is c.requires in
    let rows : c.in-While.turns.value.steps.items ≡ c.as_slice.result.now = search rules in
    IfOk-weaker c.all_spread.result _ _
    (λ v h. subst (λ (a : plain.Simpl). Moves bs (live (names bs) a) c.args.rows.items v.items) (sym e)
    (h bs (turn_steps (names bs) body) (turn_own (names bs) gs test body) (subst (λ (rs : List Row). Matrix bs (turn_steps (names bs) body) bs rs) rows r.2.steps)
    (ap (λ turns. turns.own.flags.items) c.deref-in-While-2.ensures ∙ r.2.own))) c.all_spread.ensures

pub lived-returns-in-Behind : goal.lived-returns-in-Behind
lived-returns-in-Behind t c =
    let e : command_of c.args.plan.now ≡ around c.deref-in-Behind.result.now (command_of c.deref-in-Behind-2.result.now) = search rules in
    subst (λ (a : plain.Simpl). IfOk c.lived_behind.result (λ v. Moves c.args.locals.now (live (names c.args.locals.now) a) c.args.rows.items v.items)) (sym e) c.lived_behind.ensures

pub lived_behind-returns-in-None : goal.lived_behind-returns-in-None
lived_behind-returns-in-None t c =
    let d = c.back.invariant.done in
    subst (λ (a : plain.Simpl). Moves c.args.locals.now (live (names c.args.locals.now) a) c.args.rows.items c.back.before.items) (ap (λ fs. around fs d.0) (sym c.in-None.is) ∙ d.2) d.1

pub lived_behind-back-preserved-in-Seq : goal.lived_behind-back-preserved-in-Seq
lived_behind-back-preserved-in-Seq t c =
    let d = c.back.invariant.done in
    let first = command_of c.deref.result.now in
    let r = subst (AreRight c.args.locals.now) c.in-Seq.is c.back.invariant.right in
    record {
      done = (
        plain.Seq first d.0,
        moves_then c.args.locals.now (live (names c.args.locals.now) d.0) (live (names c.args.locals.now) first) c.args.rows.items c.back.before.items c.in_ok-before-in-Seq.before.items d.1 c.in_ok-before-in-Seq.ensures,
        ap (λ fs. around fs (plain.Seq first d.0)) c.deref-rest.ensures ∙ ap (λ a. around c.in-Seq.others.value (plain.Seq (command_of a) d.0)) c.deref.ensures ∙ ap (λ fs. around fs d.0) (sym c.in-Seq.is) ∙ d.2,
      );
      right = subst (AreRight c.args.locals.now) (sym c.deref-rest.ensures) r.2;
      smaller = less_left (size-Fronts c.args.fronts.now) c.back.rest.now c.deref-rest.result.now (c.deref-rest.ensures ∙ ap left (sym c.in-Seq.is)) c.back.invariant.smaller;
    }

pub lived_behind-back-preserved : goal.lived_behind-back-preserved
lived_behind-back-preserved t c =
    let d = c.back.invariant.done in
    let guard = condition_of c.in-Guard.condition.now in
    let r = subst (AreRight c.args.locals.now) c.in-Guard.is c.back.invariant.right in
    record {
      done = (
        plain.Guard guard d.0,
        c.in_ok-before-in-Guard.ensures c.args.rows.items d.0 d.1,
        ap (λ fs. around fs (plain.Guard guard d.0)) c.deref-rest-in-Guard.ensures ∙ ap (λ fs. around fs d.0) (sym c.in-Guard.is) ∙ d.2,
      );
      right = subst (AreRight c.args.locals.now) (sym c.deref-rest-in-Guard.ensures) r;
      smaller = less_left (size-Fronts c.args.fronts.now) c.back.rest.now c.deref-rest-in-Guard.result.now (c.deref-rest-in-Guard.ensures ∙ ap left (sym c.in-Guard.is)) c.back.invariant.smaller;
    }

pub lived_choice-returns : goal.lived_choice-returns
lived_choice-returns t c =
    let bs = c.args.locals.now in
    let first = command_of c.args.first.now in
    let second = command_of c.args.second.now in
    let same : flags_of c.in_ok-others.others.items ≡ flags_of c.args.rows.items = c.in_ok-others.ensures ∙ ap flags_of c.as_slice.ensures.value in
    IfOk-weaker c.before_test.result _ _
    (λ v h. h c.args.rows.items first second c.in_ok-lefts.ensures
    (moves_then bs (λ p. p) (live (names bs) second) c.args.rows.items c.in_ok-others.others.items c.in_ok-rights.rights.items (same_moves bs c.args.rows.items c.in_ok-others.others.items same) c.in_ok-rights.ensures)) c.before_test.ensures
