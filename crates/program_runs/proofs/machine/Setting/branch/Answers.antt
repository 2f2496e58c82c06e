use Rattle.std.proofs.Common.{sym, ◌∙◌}
use Rattle.expression_lang.specs.CodeExpression.{exp_of}
use Rattle.monad_lang.specs.CodeProgram.{mon_of, final_unit_of}
use Rattle.program_runs.specs.CodeRun.{state_in, bound_of}
use Rattle.program_runs.proofs.States.{state_here}
use Rattle.program_runs.proofs.Leading.{if_sorted, else_leads}
use Rattle.program_runs.proofs.machine.Setting.branch.Goals as goal

pub test-requires-clause-sorted : goal.test-requires-clause-sorted
test-requires-clause-sorted g c = if_sorted (final_unit_of c.args.self.now.unit.now) c.args.env.now.items (exp_of c.args.e.now) (mon_of c.args.first.now) (mon_of c.args.second.now) c.requires.sorted

pub returns-clause-leads : goal.returns-clause-leads
returns-clause-leads g c =
    let u = c.args.self.now.unit.now in
    let s = state_in g.H.Heap.content u c.args.state.now in
    else_leads (final_unit_of u) c.requires.unit.layout c.args.self.now.fill c.args.env.now.items c.requires.sorted.bindings (bound_of c.args.bound) s (state_here g.H.Heap.content u c.args.state.now c.requires.state) (exp_of c.args.e.now) (mon_of c.args.first.now) (mon_of c.args.second.now) c.in_ok-test.ensures.narrow (sym c.in_ok-test.ensures.value ∙ c.if-branch.false)
