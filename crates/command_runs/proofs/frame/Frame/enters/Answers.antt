-- The first condition that doesn't hold, or the test.
use Rattle.std.proofs.Common.{◌≡◌, map, Some, None, sym, ap, ◌∙◌}
use Rattle.std.specs.Option.{option_map}
use Rattle.expression_lang.specs.CodeExpression.{exp_of}
use Rattle.simpl_lang.specs.CodeCommand.{condition_of, guard_kind_of}
use Rattle.command_runs.specs.Guarded.{first_broken}
use Rattle.command_runs.specs.CodeRun.{machine_in}
use Rattle.command_runs.proofs.Commands.{entered_on, entered_off}
use Rattle.command_runs.proofs.frame.Frame.enters.Goals as goal

pub returns-in-Some-clause-stops : goal.returns-in-Some-clause-stops
returns-in-Some-clause-stops c =
    let l = c.args.self.now.unit.now.layout in
    let m = machine_in c.args.self.now c.args.locals.now.items c.args.state.now in
    let cs = map condition_of c.args.conditions.now in
    let broken : first_broken l m cs ≡ Some (guard_kind_of c.in-Some.kind) = sym c.in_ok-kind.ensures ∙ ap (option_map guard_kind_of) c.in-Some.is in
    entered_off l m cs (exp_of c.args.test.now) (guard_kind_of c.in-Some.kind) broken

pub returns-in_ok-test-in-None-clause-enters : goal.returns-in_ok-test-in-None-clause-enters
returns-in_ok-test-in-None-clause-enters c =
    let l = c.args.self.now.unit.now.layout in
    let m = machine_in c.args.self.now c.args.locals.now.items c.args.state.now in
    let cs = map condition_of c.args.conditions.now in
    let none : first_broken l m cs ≡ None = sym c.in_ok-kind.ensures ∙ ap (option_map guard_kind_of) c.in-None.is in
    entered_on l m cs (exp_of c.args.test.now) c.in_ok-test-in-None.field-0 none c.in_ok-test-in-None.ensures
