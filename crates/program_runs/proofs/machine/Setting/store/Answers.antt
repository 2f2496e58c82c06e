use Rattle.std.proofs.Common.{◌≡◌, ◌<◌, map, sym, ap, ap₂, subst, ◌∙◌}
use Rattle.std.specs.Option.{IsSomeAnd}
use Rattle.c_values.specs.Layout.{shape_of, space}
use Rattle.c_values.specs.Path.{spot, HasShape}
use Rattle.c_values.specs.Value.{word_in}
use Rattle.c_values.specs.CodeTypes.{type_of}
use Rattle.c_values.specs.CodeValue.{value_of}
use Rattle.c_memory.specs.Heap.{IsHeap, write_heap}
use Rattle.c_memory.specs.CodeStep.{step_of}
use Rattle.expression_lang.specs.Evaluation.{value, steps}
use Rattle.expression_lang.specs.CodeExpression.{exp_of, path_of}
use Rattle.expression_lang.specs.CodeState.{env_of}
use Rattle.monad_lang.specs.Program.{Stored}
use Rattle.monad_lang.specs.CodeProgram.{final_unit_of}
use Rattle.program_runs.specs.CodeRun.{state_in}
use Rattle.program_runs.proofs.States.{state_here}
use Rattle.program_runs.proofs.Places.{stored, state_written}
use Rattle.program_runs.proofs.machine.Setting.store.Goals as goal

pub value-requires-clause-sorted : goal.value-requires-clause-sorted
value-requires-clause-sorted g c =
    let u = c.args.self.now.unit.now in
    (stored (final_unit_of u) c.requires.unit.layout c.args.env.now.items c.requires.sorted.bindings (state_in g.H.Heap.content u c.args.state.now) (state_here g.H.Heap.content u c.args.state.now c.requires.state)
    (type_of c.args.t.now) (exp_of c.args.pointer.now) (path_of c.args.path.now) (exp_of c.args.e.now) c.requires.sorted).pointer

pub steps-requires-clause-leads : goal.steps-requires-clause-leads
steps-requires-clause-leads g c =
    let u = c.args.self.now.unit.now in
    (stored (final_unit_of u) c.requires.unit.layout c.args.env.now.items c.requires.sorted.bindings (state_in g.H.Heap.content u c.args.state.now) (state_here g.H.Heap.content u c.args.state.now c.requires.state)
    (type_of c.args.t.now) (exp_of c.args.pointer.now) (path_of c.args.path.now) (exp_of c.args.e.now) c.requires.sorted).part.leads

pub value-requires-2-clause-sorted : goal.value-requires-2-clause-sorted
value-requires-2-clause-sorted g c =
    let u = c.args.self.now.unit.now in
    (stored (final_unit_of u) c.requires.unit.layout c.args.env.now.items c.requires.sorted.bindings (state_in g.H.Heap.content u c.args.state.now) (state_here g.H.Heap.content u c.args.state.now c.requires.state)
    (type_of c.args.t.now) (exp_of c.args.pointer.now) (path_of c.args.path.now) (exp_of c.args.e.now) c.requires.sorted).part.sorted

pub write_value-requires-clause-object : goal.write_value-requires-clause-object
write_value-requires-clause-object g c =
    let u = c.args.self.now.unit.now in
    (stored (final_unit_of u) c.requires.unit.layout c.args.env.now.items c.requires.sorted.bindings (state_in g.H.Heap.content u c.args.state.now) (state_here g.H.Heap.content u c.args.state.now c.requires.state)
    (type_of c.args.t.now) (exp_of c.args.pointer.now) (path_of c.args.path.now) (exp_of c.args.e.now) c.requires.sorted).object

pub write_value-requires-clause-address : goal.write_value-requires-clause-address
write_value-requires-clause-address g c =
    let u = c.args.self.now.unit.now in
    let p = stored (final_unit_of u) c.requires.unit.layout c.args.env.now.items c.requires.sorted.bindings (state_in g.H.Heap.content u c.args.state.now) (state_here g.H.Heap.content u c.args.state.now c.requires.state)
    (type_of c.args.t.now) (exp_of c.args.pointer.now) (path_of c.args.path.now) (exp_of c.args.e.now) c.requires.sorted in
    subst (λ n. n < space u.layout) (sym (c.address_of-address.ensures ∙ ap (λ w. (word_in w).bits) c.in_ok-root.ensures.value)) p.address

pub write_value-requires-clause-place : goal.write_value-requires-clause-place
write_value-requires-clause-place g c =
    let u = c.args.self.now.unit.now in
    let t = type_of c.args.t.now in
    let p = stored (final_unit_of u) c.requires.unit.layout c.args.env.now.items c.requires.sorted.bindings (state_in g.H.Heap.content u c.args.state.now) (state_here g.H.Heap.content u c.args.state.now c.requires.state)
    t (exp_of c.args.pointer.now) (path_of c.args.path.now) (exp_of c.args.e.now) c.requires.sorted in
    subst (λ o. IsSomeAnd o (λ r. HasShape r.shape (value_of c.in_ok-value.value))) (sym (ap (spot (shape_of u.layout t)) (ap (map step_of) c.deref.ensures.value ∙ c.in_ok-steps.ensures.steps) ∙ p.part.at))
    (subst (λ v. HasShape p.part.end.shape v) (sym c.in_ok-value.ensures.value) p.part.shaped)

pub returns-clause-state : goal.returns-clause-state
returns-clause-state g c =
    let u = c.args.self.now.unit.now in
    let l = u.layout in
    let env = env_of c.args.env.now.items in
    let s = state_in g.H.Heap.content u c.args.state.now in
    let t = type_of c.args.t.now in
    let p = exp_of c.args.pointer.now in
    let path = path_of c.args.path.now in
    let e = exp_of c.args.e.now in
    let w = state_written (final_unit_of u) c.requires.unit.layout c.args.env.now.items c.requires.sorted.bindings s (state_here g.H.Heap.content u c.args.state.now c.requires.state) (Stored t p path) e c.requires.sorted in
    let address : c.address_of-address.result ≡ (word_in (value l env s p)).bits = c.address_of-address.ensures ∙ ap (λ v. (word_in v).bits) c.in_ok-root.ensures.value in
    let ps : map step_of c.deref.result.now ≡ steps l env s path = ap (map step_of) c.deref.ensures.value ∙ c.in_ok-steps.ensures.steps in
    let same = c.in_ok-write_value.ensures.written ∙ ap (λ a. write_heap l s.heap t a (map step_of c.deref.result.now) (value_of c.in_ok-value.value)) address
    ∙ ap₂ (λ qs v. write_heap l s.heap t (word_in (value l env s p)).bits qs v) ps c.in_ok-value.ensures.value in
    record { heap = subst (λ h. IsHeap l h) (sym same) w.heap; globals = c.requires.state.globals }
