use Rattle.std.proofs.Common.{◌≡◌, Option, Some, map, ap, ap₂, subst, ◌∙◌}
use Rattle.c_values.specs.Types.{CType}
use Rattle.c_values.specs.Layout.{shape_of}
use Rattle.c_values.specs.Path.{HasShape, upd}
use Rattle.c_values.specs.CodeValue.{value_of, global_of}
use Rattle.c_memory.specs.CodeHeap.{byte_content}
use Rattle.c_memory.specs.CodeStep.{step_of}
use Rattle.expression_lang.specs.Machine.{machine_with}
use Rattle.expression_lang.specs.States.{state_with}
use Rattle.expression_lang.specs.Evaluation.{value, steps}
use Rattle.expression_lang.specs.CodeExpression.{exp_of, path_of}
use Rattle.expression_lang.specs.CodeState.{env_of}
use Rattle.simpl_lang.specs.Exec.{Normal}
use Rattle.global_changes.specs.GlobalChange.{position_of, change_in}
use Rattle.command_runs.specs.CodeRun.{state_in}
use Rattle.command_runs.proofs.Places.{global_parts}
use Rattle.command_runs.proofs.Placed.{part_put}
use Rattle.global_changes.proofs.Changed.{globals_changed, types_changed}
use Rattle.command_runs.proofs.frame.Frame.set_global.Goals as goal

pub value-requires-clause-sorted : goal.value-requires-clause-sorted
value-requires-clause-sorted c =
    let p = global_parts c.args.self.now c.args.name.now (path_of c.args.path.now) (exp_of c.args.e.now) c.requires.sorted in (p.2.sort, p.2.value)

changed : (c : goal.After-drop-steps-2) → map value_of c.change.new.globals.items
    ≡ change_in (position_of c.args.name.now (map global_of c.args.self.now.unit.now.globals.items))
    (steps c.args.self.now.unit.now.layout (env_of c.args.locals.now.items) (state_in c.args.self.now.unit.now c.args.state.now) (path_of c.args.path.now))
    (value c.args.self.now.unit.now.layout (env_of c.args.locals.now.items) (state_in c.args.self.now.unit.now c.args.state.now) (exp_of c.args.e.now))
    (map value_of c.args.state.now.globals.items)
changed c =
    let x = c.args.name.now in
    let vars = c.args.self.now.unit.now.globals.items in
    c.change.ensures
    ∙ ap (λ gs. change_in (position_of x (map global_of gs)) (map step_of c.deref-2.result.now) (value_of c.in_ok-value.value) (map value_of c.args.state.now.globals.items)) c.deref.ensures.value
    ∙ ap (λ qs. change_in (position_of x (map global_of vars)) (map step_of qs) (value_of c.in_ok-value.value) (map value_of c.args.state.now.globals.items)) c.deref-2.ensures.value
    ∙ ap₂ (λ ps w. change_in (position_of x (map global_of vars)) ps w (map value_of c.args.state.now.globals.items)) c.in_ok-steps.ensures c.in_ok-value.ensures

same_type : {t u : CType} {o : Option CType} → o ≡ Some t → o ≡ Some u → t ≡ u
same_type h k = cc

pub returns-clause-fits : goal.returns-clause-fits
returns-clause-fits c =
    let f = c.args.self.now in
    let bs = c.args.locals.now.items in
    let s = c.args.state.now in
    let l = f.unit.now.layout in
    let path = path_of c.args.path.now in
    let e = exp_of c.args.e.now in
    let p = global_parts f c.args.name.now path e c.requires.sorted in
    record {
      locals = c.requires.fits.locals;
      state = record {
        heap = c.requires.fits.state.heap;
        globals = types_changed l c.args.name.now (steps l (env_of bs) (state_in f.unit.now s) path) (value l (env_of bs) (state_in f.unit.now s) e) f.unit.now.globals.items s.globals.items c.change.new.globals.items
            c.requires.fits.state.globals (changed c)
            (λ t v k h. subst (λ u. HasShape (shape_of l u) (upd v (steps l (env_of bs) (state_in f.unit.now s) path) (value l (env_of bs) (state_in f.unit.now s) e))) (same_type p.1 k)
            (part_put f c.requires.frame bs s c.requires.fits p.0 path e p.2 v (subst (λ u. HasShape (shape_of l u) v) (same_type k p.1) h)));
      };
    }

pub returns-clause-run : goal.returns-clause-run
returns-clause-run c turns =
    let f = c.args.self.now in
    let bs = c.args.locals.now.items in
    let s = c.args.state.now in
    let l = f.unit.now.layout in
    let path = path_of c.args.path.now in
    let e = exp_of c.args.e.now in
    let p = global_parts f c.args.name.now path e c.requires.sorted in
    ap (λ globals. Normal (machine_with (env_of bs) (state_with (byte_content s.heap) globals)))
    (globals_changed l c.args.name.now (steps l (env_of bs) (state_in f.unit.now s) path) (value l (env_of bs) (state_in f.unit.now s) e) f.unit.now.globals.items s.globals.items c.change.new.globals.items
    c.requires.fits.state.globals (changed c) p.0 p.1)
