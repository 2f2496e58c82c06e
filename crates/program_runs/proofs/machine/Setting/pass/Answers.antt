use Rattle.std.proofs.Common.{map, sym, subst, ◌∙◌}
use Rattle.c_values.specs.CodeValue.{value_of}
use Rattle.expression_lang.specs.CodeExpression.{exp_of}
use Rattle.monad_lang.specs.CodeProgram.{final_unit_of}
use Rattle.program_runs.specs.CodeRun.{state_in, bound_of}
use Rattle.program_runs.proofs.States.{state_here}
use Rattle.program_runs.proofs.Leading.{guard_sorted, guard_fails, guard_leads}
use Rattle.monad_lang.specs.Program.{Guard}
use Rattle.program_runs.specs.Machine.{Leads, Gave}
use Rattle.program_runs.proofs.machine.Setting.pass.Goals as goal

pub test-requires-clause-sorted : goal.test-requires-clause-sorted
test-requires-clause-sorted g c = guard_sorted (final_unit_of c.args.self.now.unit.now) c.args.env.now.items (exp_of c.args.e.now) c.requires.sorted

pub returns-clause-stops : goal.returns-clause-stops
returns-clause-stops g c =
    let u = c.args.self.now.unit.now in
    let s = state_in g.H.Heap.content u c.args.state.now in
    guard_fails (final_unit_of u) c.requires.unit.layout c.args.self.now.fill c.args.env.now.items c.requires.sorted.bindings (bound_of c.args.bound) s (state_here g.H.Heap.content u c.args.state.now c.requires.state) (exp_of c.args.e.now) c.in_ok-test.ensures.narrow (sym c.in_ok-test.ensures.value ∙ c.if-branch.false)

pub returns-then-branch-clause-leads : goal.returns-then-branch-clause-leads
returns-then-branch-clause-leads g c =
    let u = c.args.self.now.unit.now in
    let s = state_in g.H.Heap.content u c.args.state.now in
    subst (λ xs. Leads (final_unit_of u) c.args.self.now.fill c.args.env.now.items (Guard (exp_of c.args.e.now)) (bound_of c.args.bound) s (Gave (map value_of xs)) s) (sym c.new.ensures.items)
    (guard_leads (final_unit_of u) c.requires.unit.layout c.args.self.now.fill c.args.env.now.items c.requires.sorted.bindings (bound_of c.args.bound) s (state_here g.H.Heap.content u c.args.state.now c.requires.state) (exp_of c.args.e.now) c.in_ok-test.ensures.narrow (sym c.in_ok-test.ensures.value ∙ c.if-branch.true))
