-- What each command comes to in one step.
use Rattle.std.proofs.Common.{rules, arith, ◌≡◌, ◌+◌, ◌-◌, map, reverse, Err, sym, ap, ap₂, ◌∙◌, subst}
use Rattle.std.specs.Prelude.{IfErr}
use Rattle.correspondence.specs.Outcome.{Turns, Done, Stopped}
use Rattle.c_values.specs.CodeTypes.{type_of}
use Rattle.expression_lang.specs.CodeExpression.{exp_of, path_of}
use Rattle.simpl_lang.specs.Command.{Set, SetGlobal, Store, Pick, Seq, Cond, Guard, Catch, While}
use Rattle.simpl_lang.specs.Exec as E
use Rattle.simpl_lang.specs.Exec.{entered}
use Rattle.simpl_lang.specs.CodeCommand.{condition_of, simpl_of}
use Rattle.command_runs.specs.declared.ends.Flow.TheVariants.{Normal}
use Rattle.command_runs.specs.declared.machine.Pending as W
use Rattle.command_runs.specs.CodeRun.{machine_in, ends_in, turn_or_end, HasStopped, CanRunIn}
use Rattle.command_runs.specs.CodeMachine.{Running, point, CanGoOn}
use Rattle.command_runs.proofs.Parts.{cond_test, guard_test, while_test}
use Rattle.command_runs.proofs.StepLaws.{step_pushed, ends_step, reaches_step, step_as, cond_true, cond_false, guard_true, guard_false, seq_step, catch_step, while_stopped, while_leaves, while_out, turn_step}
use Rattle.command_runs.proofs.frame.Frame.step.Goals as goal

pub test-requires-clause-sorted : goal.test-requires-clause-sorted
test-requires-clause-sorted c =
    let a = simpl_of c.in-Cond.first.value in
    let b = simpl_of c.in-Cond.last.value in
    cond_test c.args.self.now a b (exp_of c.in-Cond.test) (subst (λ d. CanRunIn c.args.self.now d) (ap simpl_of c.in-Cond.is) c.requires.sorted)

pub test-requires-in-Guard-clause-sorted : goal.test-requires-in-Guard-clause-sorted
test-requires-in-Guard-clause-sorted c =
    guard_test c.args.self.now (condition_of c.in-Guard.condition) (simpl_of c.in-Guard.last.value) (subst (λ d. CanRunIn c.args.self.now d) (ap simpl_of c.in-Guard.is) c.requires.sorted)

pub enters-requires-clause-test : goal.enters-requires-clause-test
enters-requires-clause-test c =
    while_test c.args.self.now (map condition_of c.in-While.conditions.items) (exp_of c.in-While.test) (simpl_of c.in-While.body.value) (subst (λ d. CanRunIn c.args.self.now d) (ap simpl_of c.in-While.is) c.requires.sorted)

pub returns-in_err-enters-in-While-clause-stops : goal.returns-in_err-enters-in-While-clause-stops
returns-in_err-enters-in-While-clause-stops c =
    let f = c.args.self.now in
    let n = c.args.turns in
    let bs = c.args.locals.now.items in
    let s = c.args.state.now in
    let whole = simpl_of c.args.c.now in
    let m = machine_in f bs s in
    let cs = map condition_of c.deref-in-While.result.now in
    let e = exp_of c.in-While.test in
    let a = simpl_of c.in-While.body.value in
    let is : whole ≡ While cs e a = ap simpl_of c.in-While.is ∙ ap (λ q. While (map condition_of q) e a) (sym c.deref-in-While.ensures.value) in
    let err = c.in_err-enters-in-While.field-0.0 in
    let same : c.from_residual-in_err-enters-in-While.result ≡ Err err = search rules in
    subst (λ r. IfErr r (HasStopped (ends_in f whole n m))) (sym same)
    (subst (λ d. HasStopped (ends_in f d n m) err) (sym is) (while_stopped f (reverse c.args.stack.now.items) bs s cs e a n err c.in_err-enters-in-While.ensures.stops))

pub returns-then-not-branch-clause-steps : goal.returns-then-not-branch-clause-steps
returns-then-not-branch-clause-steps c =
    let f = c.args.self.now in
    let n = c.args.turns in
    let bs = c.args.locals.now.items in
    let s = c.args.state.now in
    let items = c.args.stack.now.items in
    let whole = simpl_of c.args.c.now in
    let can : CanGoOn (point items (Running f whole n) bs s) = record { frame = c.requires.frame; fits = c.requires.fits; now = c.requires.sorted; rest = c.requires.rest } in
    let m = machine_in f bs s in
    let cs = map condition_of c.deref-in-While.result.now in
    let e = exp_of c.in-While.test in
    let a = simpl_of c.in-While.body.value in
    let is : whole ≡ While cs e a = ap simpl_of c.in-While.is ∙ ap (λ q. While (map condition_of q) e a) (sym c.deref-in-While.ensures.value) in
    let leaves = subst (λ b. entered f.unit.now.layout cs e m (Done (turn_or_end b m))) c.if-not-branch.true c.in_ok-enters-in-While.ensures.enters in
    ends_step f (reverse items) bs s whole n Normal bs s can c.requires.fits
    (subst (λ d. ends_in f d n m (Done (E.Normal m))) (sym is) (while_leaves f (reverse items) bs s cs e a n leaves))

pub returns-then-turns-eq0-clause-stops : goal.returns-then-turns-eq0-clause-stops
returns-then-turns-eq0-clause-stops c =
    let f = c.args.self.now in
    let n = c.args.turns in
    let bs = c.args.locals.now.items in
    let s = c.args.state.now in
    let items = c.args.stack.now.items in
    let whole = simpl_of c.args.c.now in
    let m = machine_in f bs s in
    let cs = map condition_of c.deref-in-While.result.now in
    let e = exp_of c.in-While.test in
    let a = simpl_of c.in-While.body.value in
    let is : whole ≡ While cs e a = ap simpl_of c.in-While.is ∙ ap (λ q. While (map condition_of q) e a) (sym c.deref-in-While.ensures.value) in
    let enters = subst (λ b. entered f.unit.now.layout cs e m (Done (turn_or_end b m))) c.if-not-branch.false c.in_ok-enters-in-While.ensures.enters in
    subst (λ d. ends_in f d n m (Stopped Turns)) (sym is) (while_out f (reverse items) bs s cs e a n c.if-turns-eq0.true enters)

pub returns-in_ok-set-in-Set-clause-steps : goal.returns-in_ok-set-in-Set-clause-steps
returns-in_ok-set-in-Set-clause-steps c =
    let f = c.args.self.now in
    let n = c.args.turns in
    let bs = c.args.locals.now.items in
    let s = c.args.state.now in
    let items = c.args.stack.now.items in
    let whole = simpl_of c.args.c.now in
    let can : CanGoOn (point items (Running f whole n) bs s) = record { frame = c.requires.frame; fits = c.requires.fits; now = c.requires.sorted; rest = c.requires.rest } in
    let e = exp_of c.in-Set.value in
    let same = ap (λ x. Set x e) c.as_str.ensures.value ∙ sym (ap simpl_of c.in-Set.is) in
    reaches_step f (reverse items) bs s whole (Set c.as_str.result.now e) n same c.set.new.locals.items s can c.in_ok-set-in-Set.ensures.fits c.in_ok-set-in-Set.ensures.run

pub returns-in_ok-set_global-in-SetGlobal-clause-steps : goal.returns-in_ok-set_global-in-SetGlobal-clause-steps
returns-in_ok-set_global-in-SetGlobal-clause-steps c =
    let f = c.args.self.now in
    let n = c.args.turns in
    let bs = c.args.locals.now.items in
    let s = c.args.state.now in
    let items = c.args.stack.now.items in
    let whole = simpl_of c.args.c.now in
    let can : CanGoOn (point items (Running f whole n) bs s) = record { frame = c.requires.frame; fits = c.requires.fits; now = c.requires.sorted; rest = c.requires.rest } in
    let path = path_of c.in-SetGlobal.path in
    let e = exp_of c.in-SetGlobal.value in
    let same = ap (λ x. SetGlobal x path e) c.as_str-in-SetGlobal.ensures.value ∙ sym (ap simpl_of c.in-SetGlobal.is) in
    reaches_step f (reverse items) bs s whole (SetGlobal c.as_str-in-SetGlobal.result.now path e) n same bs c.set_global.new.state can c.in_ok-set_global-in-SetGlobal.ensures.fits c.in_ok-set_global-in-SetGlobal.ensures.run

pub returns-in_ok-store-in-Store-clause-steps : goal.returns-in_ok-store-in-Store-clause-steps
returns-in_ok-store-in-Store-clause-steps c =
    let f = c.args.self.now in
    let n = c.args.turns in
    let bs = c.args.locals.now.items in
    let s = c.args.state.now in
    let items = c.args.stack.now.items in
    let whole = simpl_of c.args.c.now in
    let can : CanGoOn (point items (Running f whole n) bs s) = record { frame = c.requires.frame; fits = c.requires.fits; now = c.requires.sorted; rest = c.requires.rest } in
    reaches_step f (reverse items) bs s whole (Store (type_of c.in-Store.t) (exp_of c.in-Store.pointer) (path_of c.in-Store.path) (exp_of c.in-Store.value)) n (sym (ap simpl_of c.in-Store.is)) bs c.store.new.state can
    c.in_ok-store-in-Store.ensures.fits c.in_ok-store-in-Store.ensures.run

pub returns-in-Pick-clause-steps : goal.returns-in-Pick-clause-steps
returns-in-Pick-clause-steps c =
    let f = c.args.self.now in
    let n = c.args.turns in
    let bs = c.args.locals.now.items in
    let s = c.args.state.now in
    let items = c.args.stack.now.items in
    let whole = simpl_of c.args.c.now in
    let can : CanGoOn (point items (Running f whole n) bs s) = record { frame = c.requires.frame; fits = c.requires.fits; now = c.requires.sorted; rest = c.requires.rest } in
    let same = ap (λ x. Pick x) c.as_str-in-Pick.ensures.value ∙ sym (ap simpl_of c.in-Pick.is) in
    reaches_step f (reverse items) bs s whole (Pick c.as_str-in-Pick.result.now) n same c.pick.new.locals.items s can c.pick.ensures.fits c.pick.ensures.run

pub returns-in_ok-push-in-Seq-clause-steps : goal.returns-in_ok-push-in-Seq-clause-steps
returns-in_ok-push-in-Seq-clause-steps c =
    let f = c.args.self.now in
    let n = c.args.turns in
    let bs = c.args.locals.now.items in
    let s = c.args.state.now in
    let items = c.args.stack.now.items in
    let whole = simpl_of c.args.c.now in
    let can : CanGoOn (point items (Running f whole n) bs s) = record { frame = c.requires.frame; fits = c.requires.fits; now = c.requires.sorted; rest = c.requires.rest } in
    let a = simpl_of c.deref-in-Seq.result.now in
    let b = c.deref.result in
    let is = ap simpl_of c.in-Seq.is ∙ ap₂ (λ p q. Seq (simpl_of p) (simpl_of q)) (sym c.deref-in-Seq.ensures) (sym c.deref.ensures) in
    step_pushed (point items (Running f whole n) bs s) items c.push.new.self.items (W.TheVariants.Rest b n) (Running f a n) bs s c.in_ok-push-in-Seq.ensures.items
    (step_as f (reverse items) bs s whole (Seq a (simpl_of b.now)) n is _ can (seq_step f (reverse items) bs s a b n))

pub returns-in_ok-push-in-Catch-clause-steps : goal.returns-in_ok-push-in-Catch-clause-steps
returns-in_ok-push-in-Catch-clause-steps c =
    let f = c.args.self.now in
    let n = c.args.turns in
    let bs = c.args.locals.now.items in
    let s = c.args.state.now in
    let items = c.args.stack.now.items in
    let whole = simpl_of c.args.c.now in
    let can : CanGoOn (point items (Running f whole n) bs s) = record { frame = c.requires.frame; fits = c.requires.fits; now = c.requires.sorted; rest = c.requires.rest } in
    let a = simpl_of c.deref-in-Catch-2.result.now in
    let b = c.deref-in-Catch.result in
    let is = ap simpl_of c.in-Catch.is ∙ ap₂ (λ p q. Catch (simpl_of p) (simpl_of q)) (sym c.deref-in-Catch-2.ensures) (sym c.deref-in-Catch.ensures) in
    step_pushed (point items (Running f whole n) bs s) items c.push-in-Catch.new.self.items (W.TheVariants.Handler b n) (Running f a n) bs s c.in_ok-push-in-Catch.ensures.items
    (step_as f (reverse items) bs s whole (Catch a (simpl_of b.now)) n is _ can (catch_step f (reverse items) bs s a b n))

pub returns-then-branch-clause-steps : goal.returns-then-branch-clause-steps
returns-then-branch-clause-steps c =
    let f = c.args.self.now in
    let n = c.args.turns in
    let bs = c.args.locals.now.items in
    let s = c.args.state.now in
    let items = c.args.stack.now.items in
    let whole = simpl_of c.args.c.now in
    let can : CanGoOn (point items (Running f whole n) bs s) = record { frame = c.requires.frame; fits = c.requires.fits; now = c.requires.sorted; rest = c.requires.rest } in
    let a = simpl_of c.deref-then-branch.result.now in
    let b = simpl_of c.in-Cond.last.value in
    let e = exp_of c.in-Cond.test in
    let is = ap simpl_of c.in-Cond.is ∙ ap (λ p. Cond e (simpl_of p) b) (sym c.deref-then-branch.ensures) in
    step_as f (reverse items) bs s whole (Cond e a b) n is _ can (λ h. cond_true f (reverse items) bs s a b n e h (sym c.in_ok-test-in-Cond.ensures ∙ c.if-branch.true))

pub returns-else-branch-clause-steps : goal.returns-else-branch-clause-steps
returns-else-branch-clause-steps c =
    let f = c.args.self.now in
    let n = c.args.turns in
    let bs = c.args.locals.now.items in
    let s = c.args.state.now in
    let items = c.args.stack.now.items in
    let whole = simpl_of c.args.c.now in
    let can : CanGoOn (point items (Running f whole n) bs s) = record { frame = c.requires.frame; fits = c.requires.fits; now = c.requires.sorted; rest = c.requires.rest } in
    let a = simpl_of c.in-Cond.first.value in
    let b = simpl_of c.deref-else-branch.result.now in
    let e = exp_of c.in-Cond.test in
    let is = ap simpl_of c.in-Cond.is ∙ ap (λ q. Cond e a (simpl_of q)) (sym c.deref-else-branch.ensures) in
    step_as f (reverse items) bs s whole (Cond e a b) n is _ can (λ h. cond_false f (reverse items) bs s a b n e h (sym c.in_ok-test-in-Cond.ensures ∙ c.if-branch.false))

pub returns-then-branch-2-clause-steps : goal.returns-then-branch-2-clause-steps
returns-then-branch-2-clause-steps c =
    let f = c.args.self.now in
    let n = c.args.turns in
    let bs = c.args.locals.now.items in
    let s = c.args.state.now in
    let items = c.args.stack.now.items in
    let whole = simpl_of c.args.c.now in
    let can : CanGoOn (point items (Running f whole n) bs s) = record { frame = c.requires.frame; fits = c.requires.fits; now = c.requires.sorted; rest = c.requires.rest } in
    let a = simpl_of c.deref-then-branch-2.result.now in
    let g = condition_of c.in-Guard.condition in
    let is = ap simpl_of c.in-Guard.is ∙ ap (λ q. Guard g (simpl_of q)) (sym c.deref-then-branch-2.ensures) in
    step_as f (reverse items) bs s whole (Guard g a) n is _ can (λ h. guard_true f (reverse items) bs s a a n g h (sym c.in_ok-test-in-Guard.ensures ∙ c.if-branch-2.true))

pub returns-else-branch-2-clause-stops : goal.returns-else-branch-2-clause-stops
returns-else-branch-2-clause-stops c =
    let f = c.args.self.now in
    let n = c.args.turns in
    let bs = c.args.locals.now.items in
    let s = c.args.state.now in
    let whole = simpl_of c.args.c.now in
    let g = condition_of c.in-Guard.condition in
    guard_false f (reverse c.args.stack.now.items) bs s whole g (simpl_of c.in-Guard.last.value) n (ap simpl_of c.in-Guard.is) (sym c.in_ok-test-in-Guard.ensures ∙ c.if-branch-2.false)

pub returns-in_ok-push-in-While-clause-steps : goal.returns-in_ok-push-in-While-clause-steps
returns-in_ok-push-in-While-clause-steps c =
    let f = c.args.self.now in
    let n = c.args.turns in
    let bs = c.args.locals.now.items in
    let s = c.args.state.now in
    let items = c.args.stack.now.items in
    let whole = simpl_of c.args.c.now in
    let can : CanGoOn (point items (Running f whole n) bs s) = record { frame = c.requires.frame; fits = c.requires.fits; now = c.requires.sorted; rest = c.requires.rest } in
    let m = machine_in f bs s in
    let cs = map condition_of c.deref-in-While.result.now in
    let e = exp_of c.in-While.test in
    let a = simpl_of c.deref-in-While-2.result.now in
    let is : whole ≡ While cs e a =
    ap simpl_of c.in-While.is ∙ ap₂ (λ q d. While (map condition_of q) e (simpl_of d)) (sym c.deref-in-While.ensures.value) (sym c.deref-in-While-2.ensures) in
    let enters = subst (λ b. entered f.unit.now.layout cs e m (Done (turn_or_end b m))) c.if-not-branch.false c.in_ok-enters-in-While.ensures.enters in
    let one : (n - 1) + 1 ≡ n = omega arith in
    step_pushed (point items (Running f whole n) bs s) items c.push-in-While.new.self.items (W.TheVariants.Rest c.args.c (n - 1)) (Running f a (n - 1)) bs s c.in_ok-push-in-While.ensures.items
    (step_as f (reverse items) bs s whole (While cs e a) n is _ can (turn_step f (reverse items) bs s cs e a c.args.c is (n - 1) enters n one))
