use Rattle.std.proofs.Common.{map}
use Rattle.std.specs.Prelude.{string_bytes}
use Rattle.c_values.specs.CodeValue.{value_of}
use Rattle.expression_lang.specs.CodeExpression.{exp_of}
use Rattle.monad_lang.specs.CodeProgram.{mon_of, start_of, final_unit_of}
use Rattle.program_runs.specs.CodeRun.{state_in, bound_of}
use Rattle.program_runs.proofs.States.{state_here}
use Rattle.program_runs.proofs.Leading.{names_of_starts, loop_leads}
use Rattle.program_runs.proofs.machine.Setting.begin.Goals as goal

pub returns-clause-leads : goal.returns-clause-leads
returns-clause-leads g c =
    let u = c.args.self.now.unit.now in
    let s = state_in g.H.Heap.content u c.args.state.now in
    loop_leads (final_unit_of u) c.requires.unit.layout c.args.self.now.fill c.args.env.now.items c.requires.sorted.bindings (bound_of c.args.bound) s (state_here g.H.Heap.content u c.args.state.now c.requires.state) (map start_of c.args.starts.now) (exp_of c.args.guard.now) (exp_of c.args.test.now) (mon_of c.args.body.now) (map (λ x. string_bytes x.name) c.args.starts.now) (map value_of c.in_ok-values.values.items)
    (names_of_starts c.args.starts.now) c.in_ok-values.ensures.narrow c.in_ok-values.ensures.values
