use Rattle.std.proofs.Common.{◌≡◌, map, sym, ap, ap₂, subst, ◌∙◌}
use Rattle.std.specs.Prelude.{IfOk, string_bytes}
use Rattle.expression_lang.specs.CodeExpression.{exp_of, kind_of}
use Rattle.expression_lang.specs.CodeState.{env_of}
use Rattle.monad_lang.specs.Program.{Ret, Bind, Guard, If, Write, Loop, Call, Pick}
use Rattle.monad_lang.specs.CodeProgram.{mon_of, place_of, start_of, final_unit_of}
use Rattle.program_runs.specs.CodeRun.{state_in, machine_in, bound_of}
use Rattle.program_runs.proofs.LeadsOn.{StepsTo, leads_on, leads_anywhere, stops_on}
use Rattle.program_runs.proofs.machine.Setting.step.Goals as goal

pub returns-in-Ret-clause-steps : goal.returns-in-Ret-clause-steps
returns-in-Ret-clause-steps g c =
    let u = c.args.self.now.unit.now in
    let fu = final_unit_of u in
    let k = c.args.self.now.fill in
    let bs = c.args.env.now.items in
    let b = bound_of c.args.bound in
    let s = state_in g.H.Heap.content u c.args.state.now in
    let program = mon_of c.args.program.now in
    let same : Ret (map exp_of c.deref.result.now) ≡ program = ap (λ es. Ret (map exp_of es)) c.deref.ensures.value ∙ sym (ap mon_of c.in-Ret.is) in
    leads_on fu k b s bs c.args.stack.now.items (Ret (map exp_of c.deref.result.now)) program s c.give.result same c.give.ensures.leads

pub returns-in-Ret-clause-stops : goal.returns-in-Ret-clause-stops
returns-in-Ret-clause-stops g c =
    let u = c.args.self.now.unit.now in
    let fu = final_unit_of u in
    let k = c.args.self.now.fill in
    let bs = c.args.env.now.items in
    let b = bound_of c.args.bound in
    let s = state_in g.H.Heap.content u c.args.state.now in
    let program = mon_of c.args.program.now in
    let same : Ret (map exp_of c.deref.result.now) ≡ program = ap (λ es. Ret (map exp_of es)) c.deref.ensures.value ∙ sym (ap mon_of c.in-Ret.is) in
    stops_on fu k b s (env_of bs) (Ret (map exp_of c.deref.result.now)) program c.give.result same c.give.ensures.stops

pub returns-in_ok-enter-in-Bind-clause-steps : goal.returns-in_ok-enter-in-Bind-clause-steps
returns-in_ok-enter-in-Bind-clause-steps g c =
    let u = c.args.self.now.unit.now in
    let fu = final_unit_of u in
    let k = c.args.self.now.fill in
    let bs = c.args.env.now.items in
    let b = bound_of c.args.bound in
    let s = state_in g.H.Heap.content u c.args.state.now in
    let program = mon_of c.args.program.now in
    let same : Bind (mon_of c.deref-in-Bind.result.now) (map string_bytes c.deref-in-Bind-2.result.now) (mon_of c.deref-in-Bind-3.result.now) ≡ program = ap (λ n. Bind (mon_of n) (map string_bytes c.deref-in-Bind-2.result.now) (mon_of c.deref-in-Bind-3.result.now)) c.deref-in-Bind.ensures
    ∙ ap₂ (λ xs n. Bind (mon_of c.in-Bind.first.value) (map string_bytes xs) (mon_of n)) c.deref-in-Bind-2.ensures.value c.deref-in-Bind-3.ensures ∙ sym (ap mon_of c.in-Bind.is) in
    subst (λ p. StepsTo fu k bs c.args.stack.now.items b s p (machine_in g.H.Heap.content u bs c.enter.new.stack.items c.in_ok-enter-in-Bind.field-0 c.args.state.now)) same (c.in_ok-enter-in-Bind.ensures.steps s)

pub returns-in-Guard-clause-steps : goal.returns-in-Guard-clause-steps
returns-in-Guard-clause-steps g c =
    let u = c.args.self.now.unit.now in
    let fu = final_unit_of u in
    let k = c.args.self.now.fill in
    let bs = c.args.env.now.items in
    let b = bound_of c.args.bound in
    let s = state_in g.H.Heap.content u c.args.state.now in
    let program = mon_of c.args.program.now in
    let same : Guard (exp_of c.in-Guard.condition) ≡ program = sym (ap mon_of c.in-Guard.is) in
    leads_on fu k b s bs c.args.stack.now.items (Guard (exp_of c.in-Guard.condition)) program s c.pass.result same c.pass.ensures.leads

pub returns-in-Guard-clause-stops : goal.returns-in-Guard-clause-stops
returns-in-Guard-clause-stops g c =
    let u = c.args.self.now.unit.now in
    let fu = final_unit_of u in
    let k = c.args.self.now.fill in
    let bs = c.args.env.now.items in
    let b = bound_of c.args.bound in
    let s = state_in g.H.Heap.content u c.args.state.now in
    let program = mon_of c.args.program.now in
    let same : Guard (exp_of c.in-Guard.condition) ≡ program = sym (ap mon_of c.in-Guard.is) in
    stops_on fu k b s (env_of bs) (Guard (exp_of c.in-Guard.condition)) program c.pass.result same c.pass.ensures.stops

pub returns-in-If-clause-steps : goal.returns-in-If-clause-steps
returns-in-If-clause-steps g c =
    let u = c.args.self.now.unit.now in
    let fu = final_unit_of u in
    let k = c.args.self.now.fill in
    let bs = c.args.env.now.items in
    let b = bound_of c.args.bound in
    let s = state_in g.H.Heap.content u c.args.state.now in
    let program = mon_of c.args.program.now in
    let same : If (exp_of c.in-If.test) (mon_of c.deref-in-If.result.now) (mon_of c.deref-in-If-2.result.now) ≡ program = ap₂ (λ m n. If (exp_of c.in-If.test) (mon_of m) (mon_of n)) c.deref-in-If.ensures c.deref-in-If-2.ensures ∙ sym (ap mon_of c.in-If.is) in
    leads_on fu k b s bs c.args.stack.now.items (If (exp_of c.in-If.test) (mon_of c.deref-in-If.result.now) (mon_of c.deref-in-If-2.result.now)) program s c.branch-self.result same c.branch-self.ensures.leads

pub returns-in-Write-clause-steps : goal.returns-in-Write-clause-steps
returns-in-Write-clause-steps g c =
    let u = c.args.self.now.unit.now in
    let fu = final_unit_of u in
    let k = c.args.self.now.fill in
    let bs = c.args.env.now.items in
    let b = bound_of c.args.bound in
    let s = state_in g.H.Heap.content u c.args.state.now in
    let program = mon_of c.args.program.now in
    let same : Write (place_of c.in-Write.place) (exp_of c.in-Write.value) ≡ program = sym (ap mon_of c.in-Write.is) in
    leads_on fu k b s bs c.args.stack.now.items (Write (place_of c.in-Write.place) (exp_of c.in-Write.value)) program (state_in g.H.Heap.content u c.write.new.state) c.write.result same c.write.ensures.leads

pub returns-in-Write-clause-stops : goal.returns-in-Write-clause-stops
returns-in-Write-clause-stops g c =
    let u = c.args.self.now.unit.now in
    let fu = final_unit_of u in
    let k = c.args.self.now.fill in
    let bs = c.args.env.now.items in
    let b = bound_of c.args.bound in
    let s = state_in g.H.Heap.content u c.args.state.now in
    let program = mon_of c.args.program.now in
    let same : Write (place_of c.in-Write.place) (exp_of c.in-Write.value) ≡ program = sym (ap mon_of c.in-Write.is) in
    stops_on fu k b s (env_of bs) (Write (place_of c.in-Write.place) (exp_of c.in-Write.value)) program c.write.result same c.write.ensures.stops

pub returns-in-Loop-clause-steps : goal.returns-in-Loop-clause-steps
returns-in-Loop-clause-steps g c =
    let u = c.args.self.now.unit.now in
    let fu = final_unit_of u in
    let k = c.args.self.now.fill in
    let bs = c.args.env.now.items in
    let b = bound_of c.args.bound in
    let s = state_in g.H.Heap.content u c.args.state.now in
    let program = mon_of c.args.program.now in
    let same : Loop (map start_of c.deref-in-Loop.result.now) (exp_of c.in-Loop.guard) (exp_of c.in-Loop.test) (mon_of c.deref-in-Loop-2.result.now) ≡ program = ap₂ (λ xs n. Loop (map start_of xs) (exp_of c.in-Loop.guard) (exp_of c.in-Loop.test) (mon_of n)) c.deref-in-Loop.ensures.value c.deref-in-Loop-2.ensures ∙ sym (ap mon_of c.in-Loop.is) in
    leads_on fu k b s bs c.args.stack.now.items (Loop (map start_of c.deref-in-Loop.result.now) (exp_of c.in-Loop.guard) (exp_of c.in-Loop.test) (mon_of c.deref-in-Loop-2.result.now)) program s c.begin.result same c.begin.ensures.leads

pub returns-in-Loop-clause-stops : goal.returns-in-Loop-clause-stops
returns-in-Loop-clause-stops g c =
    let u = c.args.self.now.unit.now in
    let fu = final_unit_of u in
    let k = c.args.self.now.fill in
    let bs = c.args.env.now.items in
    let b = bound_of c.args.bound in
    let s = state_in g.H.Heap.content u c.args.state.now in
    let program = mon_of c.args.program.now in
    let same : Loop (map start_of c.deref-in-Loop.result.now) (exp_of c.in-Loop.guard) (exp_of c.in-Loop.test) (mon_of c.deref-in-Loop-2.result.now) ≡ program = ap₂ (λ xs n. Loop (map start_of xs) (exp_of c.in-Loop.guard) (exp_of c.in-Loop.test) (mon_of n)) c.deref-in-Loop.ensures.value c.deref-in-Loop-2.ensures ∙ sym (ap mon_of c.in-Loop.is) in
    stops_on fu k b s (env_of bs) (Loop (map start_of c.deref-in-Loop.result.now) (exp_of c.in-Loop.guard) (exp_of c.in-Loop.test) (mon_of c.deref-in-Loop-2.result.now)) program c.begin.result same c.begin.ensures.stops

pub returns-in-Call-clause-steps : goal.returns-in-Call-clause-steps
returns-in-Call-clause-steps g c =
    let u = c.args.self.now.unit.now in
    let fu = final_unit_of u in
    let k = c.args.self.now.fill in
    let bs = c.args.env.now.items in
    let b = bound_of c.args.bound in
    let s = state_in g.H.Heap.content u c.args.state.now in
    let program = mon_of c.args.program.now in
    let same : Call c.as_str.result.now (map exp_of c.deref-in-Call.result.now) ≡ program = ap₂ (λ x es. Call x (map exp_of es)) c.as_str.ensures.value c.deref-in-Call.ensures.value ∙ sym (ap mon_of c.in-Call.is) in
    subst (λ p. IfOk c.call.result (λ next. StepsTo fu k bs c.args.stack.now.items b s p (machine_in g.H.Heap.content u c.call.new.env.items c.call.new.stack.items next c.args.state.now))) same c.call.ensures.steps

pub returns-in-Pick-clause-steps : goal.returns-in-Pick-clause-steps
returns-in-Pick-clause-steps g c =
    let u = c.args.self.now.unit.now in
    let fu = final_unit_of u in
    let k = c.args.self.now.fill in
    let bs = c.args.env.now.items in
    let b = bound_of c.args.bound in
    let s = state_in g.H.Heap.content u c.args.state.now in
    let program = mon_of c.args.program.now in
    let same : Pick (kind_of c.in-Pick.kind) ≡ program = sym (ap mon_of c.in-Pick.is) in
    leads_anywhere fu k b s bs c.args.stack.now.items (Pick (kind_of c.in-Pick.kind)) program c.pick.result same c.pick.ensures.leads
