use Rattle.std.proofs.Common.{◌∷◌, length, map, sym, subst}
use Rattle.std.specs.Prelude.{string_bytes}
use Rattle.c_values.specs.CodeValue.{value_of}
use Rattle.monad_lang.specs.CodeProgram.{mon_of, final_unit_of}
use Rattle.program_runs.specs.declared.machine.Pending as W
use Rattle.program_runs.specs.Bound.{Extends}
use Rattle.program_runs.specs.Machine.{Running, Turning, Gave, Machine, IsSorted, Steps}
use Rattle.program_runs.specs.CodeRun.{stack_of, AreMarked, bound_of, turns_of}
use Rattle.program_runs.proofs.MachineSteps.{caller_goes_on}
use Rattle.program_runs.proofs.Stacks.{rest_resumed, rest_marked, turn_resumed}
use Rattle.program_runs.proofs.machine.Setting.resume.Goals as goal

pub returns-in-Rest-clause-steps : goal.returns-in-Rest-clause-steps
returns-in-Rest-clause-steps c fs s out marked h =
    let u = final_unit_of c.args.self.now.unit.now in
    let k = c.args.self.now.fill in
    let old = c.args.env.now.items in
    let vs = map value_of c.args.values.items in
    let before : W.Pending → Machine = λ p. record { stack = stack_of old (p ∷ fs); now = Gave vs; state = s } in
    let x = subst (λ ws. Extends c.truncate.new.self.items (map string_bytes c.in-Rest.names.now) (map value_of ws) c.bind.new.env.items) c.deref.ensures.value c.in_ok-bind-in-Rest.ensures in
    subst (λ p. Steps u k out (before p) (record { stack = stack_of c.bind.new.env.items fs; now = Running c.bind.new.env.items (mon_of c.in-Rest.rest.now) (bound_of c.in-Rest.bound); state = s })) (sym c.in-Rest.is)
    (rest_resumed u k out s old c.truncate.new.self.items c.in-Rest.mark c.truncate.ensures.items fs c.in-Rest.names c.in-Rest.rest c.in-Rest.bound vs c.bind.new.env.items
    (subst (λ p. AreMarked (length old) (p ∷ fs)) c.in-Rest.is marked) x (subst (λ p. IsSorted u (before p) out) c.in-Rest.is h))

pub returns-in-Rest-clause-marked : goal.returns-in-Rest-clause-marked
returns-in-Rest-clause-marked c fs marked =
    let old = c.args.env.now.items in
    let x = subst (λ ws. Extends c.truncate.new.self.items (map string_bytes c.in-Rest.names.now) (map value_of ws) c.bind.new.env.items) c.deref.ensures.value c.in_ok-bind-in-Rest.ensures in
    let m = subst (λ p. AreMarked (length old) (p ∷ fs)) c.in-Rest.is marked in
    rest_marked old c.truncate.new.self.items c.in-Rest.mark c.truncate.ensures.items fs m.0 m.1 (map string_bytes c.in-Rest.names.now) (map value_of c.args.values.items) c.bind.new.env.items x

pub returns-in-Turn-clause-steps : goal.returns-in-Turn-clause-steps
returns-in-Turn-clause-steps c fs s out marked h =
    let u = final_unit_of c.args.self.now.unit.now in
    let k = c.args.self.now.fill in
    let old = c.args.env.now.items in
    let vs = map value_of c.args.values.items in
    let before : W.Pending → Machine = λ p. record { stack = stack_of old (p ∷ fs); now = Gave vs; state = s } in
    let cut = c.truncate-in-Turn.new.self.items in
    subst (λ p. Steps u k out (before p) (record { stack = stack_of cut fs; now = Turning cut (turns_of c.in-Turn.turns) vs; state = s })) (sym c.in-Turn.is)
    (turn_resumed u k out s old cut c.in-Turn.mark c.truncate-in-Turn.ensures.items fs c.in-Turn.turns vs (subst (λ p. IsSorted u (before p) out) c.in-Turn.is h))

pub returns-clause-steps : goal.returns-clause-steps
returns-clause-steps c fs s out marked h =
    let u = final_unit_of c.args.self.now.unit.now in
    let k = c.args.self.now.fill in
    let old = c.args.env.now.items in
    let vs = map value_of c.args.values.items in
    let before : W.Pending → Machine = λ p. record { stack = stack_of old (p ∷ fs); now = Gave vs; state = s } in
    subst (λ p. Steps u k out (before p) (record { stack = stack_of c.in-Caller.caller.items fs; now = Gave vs; state = s })) (sym c.in-Caller.is)
    (caller_goes_on u k out (stack_of c.in-Caller.caller.items fs) s vs (subst (λ p. IsSorted u (before p) out) c.in-Caller.is h))
