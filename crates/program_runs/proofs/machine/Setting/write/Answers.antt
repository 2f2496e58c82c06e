use Rattle.std.proofs.Common.{map, sym, subst}
use Rattle.c_values.specs.CodeValue.{value_of}
use Rattle.expression_lang.specs.CodeExpression.{exp_of}
use Rattle.monad_lang.specs.Program.{Write}
use Rattle.monad_lang.specs.CodeProgram.{place_of, final_unit_of}
use Rattle.program_runs.specs.Machine.{Leads, Gave}
use Rattle.program_runs.specs.CodeRun.{state_in, bound_of}
use Rattle.program_runs.proofs.States.{state_here}
use Rattle.program_runs.proofs.Leading.{write_leads}
use Rattle.program_runs.proofs.machine.Setting.write.Goals as goal

pub returns-clause-leads : goal.returns-clause-leads
returns-clause-leads g c =
    let u = c.args.self.now.unit.now in
    let s = state_in g.H.Heap.content u c.args.state.now in
    let after = state_in g.H.Heap.content u c.put.new.state in
    let place = place_of c.args.place.now in
    let e = exp_of c.args.e.now in
    subst (λ xs. Leads (final_unit_of u) c.args.self.now.fill c.args.env.now.items (Write place e) (bound_of c.args.bound) s (Gave (map value_of xs)) after) (sym c.new.ensures.items)
    (write_leads (final_unit_of u) c.requires.unit.layout c.args.self.now.fill c.args.env.now.items c.requires.sorted.bindings (bound_of c.args.bound) s (state_here g.H.Heap.content u c.args.state.now c.requires.state)
    place e after c.in_ok-put.ensures.writes.narrow c.in_ok-put.ensures.writes.written)
