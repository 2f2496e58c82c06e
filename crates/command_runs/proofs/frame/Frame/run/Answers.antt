-- A step that stops is a stop of the whole, and what is pending goes on by a step.
use Rattle.std.proofs.Common.{rules, ◌≡◌, reverse, Err, sym, subst}
use Rattle.simpl_lang.specs.CodeCommand.{simpl_of}
use Rattle.command_runs.specs.declared.machine.Next as N
use Rattle.command_runs.specs.CodeRun.{machine_in, ends_in, HasRun}
use Rattle.command_runs.specs.CodeMachine.{Ended, now_of, point}
use Rattle.command_runs.proofs.RunLaws.{left_at, left_state, left_step, left_stops, fewer_at, popped_step}
use Rattle.command_runs.proofs.frame.Frame.run.Goals as goal

pub returns-in_err-next-in-Running-clause-end : goal.returns-in_err-next-in-Running-clause-end
returns-in_err-next-in-Running-clause-end c =
    let f = c.args.self.now in
    let whole = simpl_of c.args.c.now in
    let n = c.args.turns in
    let m = machine_in f c.args.locals.now.items c.args.state.now in
    let items = c.steps.stack.items in
    let bs = c.steps.locals.items in
    let s = c.steps.state in
    let next : N.Next = N.TheVariants.Running c.in-Running.frame c.in-Running.command c.in-Running.left in
    let err = c.in_err-next-in-Running.field-0.0 in
    let same : c.from_residual.result ≡ Err err = search rules in
    subst (λ r. HasRun (ends_in f whole n m) r (machine_in f c.step.new.locals.items c.step.new.state)) (sym same)
    (left_stops f whole n m c.in-Running.frame (simpl_of c.in-Running.command.now) c.in-Running.left items bs s err
    (left_at f whole n m items c.steps.next next bs s c.in-Running.is c.steps.invariant) c.in_err-next-in-Running.ensures.stops)

-- nothing is pending, and the frame's state can be gone on with
pub returns-in-None-clause-lasts : goal.returns-in-None-clause-lasts
returns-in-None-clause-lasts c =
    let f = c.args.self.now in
    let m = machine_in f c.args.locals.now.items c.args.state.now in
    let next : N.Next = N.TheVariants.Ended c.in-Ended.frame c.in-Ended.flow in
    left_state f (simpl_of c.args.c.now) c.args.turns m
    (point c.steps.stack.items (now_of next) c.steps.locals.items c.steps.state)
    (left_at f (simpl_of c.args.c.now) c.args.turns m c.steps.stack.items c.steps.next next c.steps.locals.items c.steps.state c.in-Ended.is c.steps.invariant)

pub steps-smaller : goal.steps-smaller
steps-smaller c =
    let f = c.args.self.now in
    let whole = simpl_of c.args.c.now in
    let n = c.args.turns in
    let m = machine_in f c.args.locals.now.items c.args.state.now in
    let items = c.steps.stack.items in
    let news = c.pop.new.self.items in
    let bs = c.steps.locals.items in
    let s = c.steps.state in
    let g = c.in-Ended.frame in
    let w = c.in-Ended.flow in
    let next : N.Next = N.TheVariants.Ended g w in
    let left = left_at f whole n m items c.steps.next next bs s c.in-Ended.is c.steps.invariant in
    let step = popped_step items news c.in-Some.pending c.in-Some.ensures.items g w bs s (point news (now_of c.resume-next.result) c.resume-next.new.locals.items s) left.sorted (λ h. c.resume-next.ensures (reverse news) s h) in
    fewer_at f whole n m items news c.steps.next next c.resume-next.result bs c.resume-next.new.locals.items s s c.in-Ended.is step

pub steps-preserved : goal.steps-preserved
steps-preserved c =
    let f = c.args.self.now in
    let whole = simpl_of c.args.c.now in
    let n = c.args.turns in
    let m = machine_in f c.args.locals.now.items c.args.state.now in
    let items = c.steps.stack.items in
    let news = c.pop.new.self.items in
    let bs = c.steps.locals.items in
    let s = c.steps.state in
    let g = c.in-Ended.frame in
    let w = c.in-Ended.flow in
    let next : N.Next = N.TheVariants.Ended g w in
    let after = point news (now_of c.resume-next.result) c.resume-next.new.locals.items s in
    let left = left_at f whole n m items c.steps.next next bs s c.in-Ended.is c.steps.invariant in
    let step = popped_step items news c.in-Some.pending c.in-Some.ensures.items g w bs s after left.sorted (λ h. c.resume-next.ensures (reverse news) s h) in
    left_step f whole n m (point items (Ended g w) bs s) after left step
