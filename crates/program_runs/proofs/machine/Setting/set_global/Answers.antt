use Rattle.std.proofs.Common.{◌≡◌, Option, Some, map, ap, ap₂, subst, ◌∙◌}
use Rattle.c_values.specs.Types.{CType}
use Rattle.c_values.specs.Layout.{shape_of}
use Rattle.c_values.specs.Path.{HasShape, upd}
use Rattle.c_values.specs.CodeValue.{value_of, global_of}
use Rattle.c_memory.specs.CodeStep.{step_of}
use Rattle.expression_lang.specs.Evaluation.{value, steps}
use Rattle.expression_lang.specs.States.{state_with}
use Rattle.expression_lang.specs.Wide.{wide, wide_in}
use Rattle.expression_lang.specs.CodeExpression.{exp_of, path_of}
use Rattle.expression_lang.specs.CodeState.{env_of}
use Rattle.monad_lang.specs.CodeProgram.{final_unit_of}
use Rattle.global_changes.specs.GlobalChange.{position_of, change_in}
use Rattle.program_runs.specs.CodeRun.{state_in}
use Rattle.program_runs.proofs.Lists.{passed}
use Rattle.program_runs.proofs.States.{state_here}
use Rattle.program_runs.proofs.Places.{global_part, part_put}
use Rattle.global_changes.proofs.Changed.{globals_changed, types_changed}
use Rattle.program_runs.proofs.machine.Setting.set_global.Given as given
use Rattle.program_runs.proofs.machine.Setting.set_global.Goals as goal

pub steps-requires-clause-leads : goal.steps-requires-clause-leads
steps-requires-clause-leads g c =
    let u = c.args.self.now.unit.now in
    (global_part (final_unit_of u) c.requires.unit.layout c.args.env.now.items c.requires.sorted.bindings (state_in g.H.Heap.content u c.args.state.now) (state_here g.H.Heap.content u c.args.state.now c.requires.state)
    c.args.name.now (path_of c.args.path.now) (exp_of c.args.e.now) c.requires.sorted).2.leads

pub value-requires-clause-sorted : goal.value-requires-clause-sorted
value-requires-clause-sorted g c =
    let u = c.args.self.now.unit.now in
    (global_part (final_unit_of u) c.requires.unit.layout c.args.env.now.items c.requires.sorted.bindings (state_in g.H.Heap.content u c.args.state.now) (state_here g.H.Heap.content u c.args.state.now c.requires.state)
    c.args.name.now (path_of c.args.path.now) (exp_of c.args.e.now) c.requires.sorted).2.sorted

changed : (g : given.Over) (c : goal.After-drop-steps-2 g) → map value_of c.change.new.globals.items
    ≡ change_in (position_of c.args.name.now (map global_of c.args.self.now.unit.now.globals.items))
    (steps c.args.self.now.unit.now.layout (env_of c.args.env.now.items) (state_in g.H.Heap.content c.args.self.now.unit.now c.args.state.now) (path_of c.args.path.now))
    (value c.args.self.now.unit.now.layout (env_of c.args.env.now.items) (state_in g.H.Heap.content c.args.self.now.unit.now c.args.state.now) (exp_of c.args.e.now))
    (map value_of c.args.state.now.globals.items)
changed g c =
    let x = c.args.name.now in
    let vars = c.args.self.now.unit.now.globals.items in
    let olds = map value_of c.args.state.now.globals.items in
    c.change.ensures
    ∙ ap (λ gs. change_in (position_of x (map global_of gs)) (map step_of c.deref-2.result.now) (value_of c.in_ok-value.value) olds) c.deref.ensures.value
    ∙ ap (λ qs. change_in (position_of x (map global_of vars)) (map step_of qs) (value_of c.in_ok-value.value) olds) c.deref-2.ensures.value
    ∙ ap₂ (λ ps w. change_in (position_of x (map global_of vars)) ps w olds) c.in_ok-steps.ensures.steps c.in_ok-value.ensures.value

same_type : {t u : CType} {o : Option CType} → o ≡ Some t → o ≡ Some u → t ≡ u
same_type h k = cc

pub returns-clause-state : goal.returns-clause-state
returns-clause-state g c =
    let u = c.args.self.now.unit.now in
    let l = u.layout in
    let env = env_of c.args.env.now.items in
    let s = state_in g.H.Heap.content u c.args.state.now in
    let x = c.args.name.now in
    let path = path_of c.args.path.now in
    let e = exp_of c.args.e.now in
    let here = state_here g.H.Heap.content u c.args.state.now c.requires.state in
    let p = global_part (final_unit_of u) c.requires.unit.layout c.args.env.now.items c.requires.sorted.bindings s here x path e c.requires.sorted in
    record {
      heap = c.requires.state.heap;
      globals = types_changed l x (steps l env s path) (value l env s e) u.globals.items c.args.state.now.globals.items c.change.new.globals.items c.requires.state.globals (changed g c)
          (λ t v k h. subst (λ r. HasShape (shape_of l r) (upd v (steps l env s path) (value l env s e))) (same_type p.1 k)
          (part_put (final_unit_of u) c.requires.unit.layout c.args.env.now.items c.requires.sorted.bindings s here p.0 path e p.2 v (subst (λ r. HasShape (shape_of l r) v) (same_type k p.1) h)));
    }

pub returns-clause-writes : goal.returns-clause-writes
returns-clause-writes g c =
    let u = c.args.self.now.unit.now in
    let l = u.layout in
    let env = env_of c.args.env.now.items in
    let s = state_in g.H.Heap.content u c.args.state.now in
    let x = c.args.name.now in
    let path = path_of c.args.path.now in
    let e = exp_of c.args.e.now in
    let p = global_part (final_unit_of u) c.requires.unit.layout c.args.env.now.items c.requires.sorted.bindings s (state_here g.H.Heap.content u c.args.state.now c.requires.state) x path e c.requires.sorted in
    record {
      narrow = passed (wide_in l env s path) (wide l env s e) c.in_ok-steps.ensures.narrow ∙ c.in_ok-value.ensures.narrow;
      written = ap (λ globals. state_with s.heap globals)
          (globals_changed l x (steps l env s path) (value l env s e) u.globals.items c.args.state.now.globals.items c.change.new.globals.items c.requires.state.globals (changed g c) p.0 p.1);
    }
