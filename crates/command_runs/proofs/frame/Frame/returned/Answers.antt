-- A body begins as it does in the definitions, and what it ends with is what the function does.
use Rattle.std.proofs.Common.{rules, ◌≡◌, map, Some, Err, sym, ap, subst}
use Rattle.std.specs.Option.{option_map}
use Rattle.correspondence.specs.Outcome.{Done}
use Rattle.c_values.specs.Choice.{Fill}
use Rattle.c_values.specs.CodeValue.{value_of}
use Rattle.expression_lang.specs.CodeExpression.{kind_of}
use Rattle.simpl_lang.specs.Exec.{simpl_runs, result_of}
use Rattle.simpl_lang.specs.CodeCommand.{simpl_unit_of}
use Rattle.command_runs.specs.CodeRun.{machine_in, state_in, call_of, HasReturned}
use Rattle.command_runs.proofs.Bodies.{body_kinds, body_frame, body_fits, body_runs, body_stopped, body_done}
use Rattle.command_runs.proofs.frame.Frame.returned.Goals as goal

pub started-requires : goal.started-requires
started-requires c = body_kinds c.args.self.now c.args.function.now c.args.signature.now (map value_of c.args.arguments.now) c.requires.unit c.requires.locals c.requires.called

pub run-requires-clause-frame : goal.run-requires-clause-frame
run-requires-clause-frame c = body_frame c.args.self.now c.args.function.now c.args.signature.now (map value_of c.args.arguments.now) c.requires.unit c.requires.locals c.requires.called

pub run-requires-clause-fits : goal.run-requires-clause-fits
run-requires-clause-fits c =
    body_fits c.args.self.now c.args.function.now c.args.signature.now (map value_of c.args.arguments.now) c.requires.unit c.requires.locals c.requires.called
    c.in_ok-locals.locals.items c.args.state.now c.requires.state c.in_ok-locals.ensures

pub run-requires-clause-sorted : goal.run-requires-clause-sorted
run-requires-clause-sorted c = body_runs c.args.self.now c.args.function.now c.args.signature.now (map value_of c.args.arguments.now) c.requires.unit c.requires.locals c.requires.called

pub returns-in_err-run-clause-end : goal.returns-in_err-run-clause-end
returns-in_err-run-clause-end c =
    let f = c.args.self.now in
    let h = c.args.function.now in
    let vs = map value_of c.args.arguments.now in
    let s = c.args.state.now in
    let err = c.in_err-run.field-0.0 in
    let same : c.from_residual-in_err-run.result ≡ Err err = search rules in
    let n = machine_in f c.run.new.locals.items c.run.new.state in
    subst (λ r. HasReturned f.unit.now (simpl_runs (simpl_unit_of f.unit.now) (Fill f.fill) c.args.turns (Some f.depth) (call_of h vs (state_in f.unit.now s))) r c.run.new.state) (sym same)
    (body_stopped f h c.args.signature.now vs c.requires.unit c.requires.locals c.requires.called c.in_ok-locals.locals.items s c.requires.state c.in_ok-locals.ensures c.args.turns err n c.run.new.state c.in_err-run.ensures.end)

pub returns-in-None-clause-end : goal.returns-in-None-clause-end
returns-in-None-clause-end c =
    let f = c.args.self.now in
    let h = c.args.function.now in
    let vs = map value_of c.args.arguments.now in
    let s = c.args.state.now in
    let n = machine_in f c.run.new.locals.items c.run.new.state in
    subst (λ r. simpl_runs (simpl_unit_of f.unit.now) (Fill f.fill) c.args.turns (Some f.depth) (call_of h vs (state_in f.unit.now s)) (Done (record { result = result_of r n; state = n.state })))
    (ap (option_map kind_of) c.in-None.is)
    (body_done f h c.args.signature.now vs c.requires.unit c.requires.locals c.requires.called c.in_ok-locals.locals.items s c.requires.state c.in_ok-locals.ensures c.args.turns c.in_ok-run.field-0 n c.in_ok-run.ensures.end)

pub returns-in-Some-clause-end : goal.returns-in-Some-clause-end
returns-in-Some-clause-end c =
    let f = c.args.self.now in
    let h = c.args.function.now in
    let vs = map value_of c.args.arguments.now in
    let s = c.args.state.now in
    let n = machine_in f c.run.new.locals.items c.run.new.state in
    subst (λ v. simpl_runs (simpl_unit_of f.unit.now) (Fill f.fill) c.args.turns (Some f.depth) (call_of h vs (state_in f.unit.now s)) (Done (record { result = Some v; state = n.state }))) (sym c.taken.ensures)
    (subst (λ r. simpl_runs (simpl_unit_of f.unit.now) (Fill f.fill) c.args.turns (Some f.depth) (call_of h vs (state_in f.unit.now s)) (Done (record { result = result_of r n; state = n.state })))
    (ap (option_map kind_of) c.in-Some.is)
    (body_done f h c.args.signature.now vs c.requires.unit c.requires.locals c.requires.called c.in_ok-locals.locals.items s c.requires.state c.in_ok-locals.ensures c.args.turns c.in_ok-run.field-0 n c.in_ok-run.ensures.end))
