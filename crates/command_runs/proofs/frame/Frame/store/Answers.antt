use Rattle.std.proofs.Common.{◌<◌, map, sym, ap, subst, ◌∙◌}
use Rattle.std.specs.Option.{IsSomeAnd}
use Rattle.c_values.specs.Types.{address_width}
use Rattle.c_values.specs.Layout.{shape_of, space}
use Rattle.c_values.specs.Path.{spot, HasShape}
use Rattle.c_values.specs.Value.{word_in}
use Rattle.c_values.specs.CodeTypes.{type_of}
use Rattle.c_values.specs.CodeValue.{value_of}
use Rattle.c_memory.specs.Heap.{IsHeap}
use Rattle.c_memory.specs.CodeHeap.{memory_of}
use Rattle.c_memory.specs.CodeStep.{step_of}
use Rattle.c_memory.proofs.Written.{written as bytes_written}
use Rattle.expression_lang.specs.Sort.{Of, WordSort}
use Rattle.expression_lang.specs.CodeExpression.{exp_of, path_of}
use Rattle.global_changes.proofs.Indexed.{bits_below}
use Rattle.command_runs.proofs.Evaluated.{value_fits}
use Rattle.command_runs.proofs.Places.{store_parts}
use Rattle.command_runs.proofs.Placed.{on_ok, placed}
use Rattle.command_runs.proofs.frame.Frame.store.Goals as goal

pub value-requires-clause-sorted : goal.value-requires-clause-sorted
value-requires-clause-sorted c =
    let p = store_parts c.args.self.now (type_of c.args.t.now) (exp_of c.args.pointer.now) (path_of c.args.path.now) (exp_of c.args.e.now) c.requires.sorted in
    (Of (WordSort (address_width c.args.self.now.unit.now.layout.target)), p.0)

pub steps-requires-clause-leads : goal.steps-requires-clause-leads
steps-requires-clause-leads c =
    let p = store_parts c.args.self.now (type_of c.args.t.now) (exp_of c.args.pointer.now) (path_of c.args.path.now) (exp_of c.args.e.now) c.requires.sorted in
    (shape_of c.args.self.now.unit.now.layout (type_of c.args.t.now), p.1.shape, p.1.leads)

pub value-requires-2-clause-sorted : goal.value-requires-2-clause-sorted
value-requires-2-clause-sorted c =
    let p = store_parts c.args.self.now (type_of c.args.t.now) (exp_of c.args.pointer.now) (path_of c.args.path.now) (exp_of c.args.e.now) c.requires.sorted in
    (p.1.sort, p.1.value)

pub write_value-requires-clause-object : goal.write_value-requires-clause-object
write_value-requires-clause-object c =
    (store_parts c.args.self.now (type_of c.args.t.now) (exp_of c.args.pointer.now) (path_of c.args.path.now) (exp_of c.args.e.now) c.requires.sorted).1.object

pub write_value-requires-clause-address : goal.write_value-requires-clause-address
write_value-requires-clause-address c =
    let f = c.args.self.now in
    let l = f.unit.now.layout in
    let p = store_parts f (type_of c.args.t.now) (exp_of c.args.pointer.now) (path_of c.args.path.now) (exp_of c.args.e.now) c.requires.sorted in
    let v = value_fits f c.requires.frame c.args.locals.now.items c.args.state.now c.requires.fits (exp_of c.args.pointer.now) (Of (WordSort (address_width l.target))) p.0 in
    subst (λ n. n < space l) (sym (c.address_of-address.ensures ∙ ap (λ w. (word_in w).bits) c.in_ok-root.ensures)) (bits_below (address_width l.target) _ v)

pub write_value-requires-clause-place : goal.write_value-requires-clause-place
write_value-requires-clause-place c =
    let f = c.args.self.now in
    let l = f.unit.now.layout in
    let t = type_of c.args.t.now in
    let p = store_parts f t (exp_of c.args.pointer.now) (path_of c.args.path.now) (exp_of c.args.e.now) c.requires.sorted in
    let q = placed f c.requires.frame c.args.locals.now.items c.args.state.now c.requires.fits t (path_of c.args.path.now) (exp_of c.args.e.now) p.1 in
    subst (λ o. IsSomeAnd o (λ r. HasShape r.shape (value_of c.in_ok-value.value))) (sym (ap (spot (shape_of l t)) (ap (map step_of) c.deref.ensures.value ∙ c.in_ok-steps.ensures) ∙ q.leads))
    (subst (λ v. HasShape q.end.shape v) (sym c.in_ok-value.ensures) q.shaped)

pub returns-clause-fits : goal.returns-clause-fits
returns-clause-fits c =
    let f = c.args.self.now in
    let l = f.unit.now.layout in
    let fits = c.requires.fits in
    on_ok c.write_value.result c.write_value.ensures.written
    (λ written. record {
      locals = fits.locals;
      state = record {
        heap = subst (λ h. IsHeap l h) (sym written) (bytes_written l (memory_of c.args.state.now.heap) (type_of c.args.t.now) c.address_of-address.result (map step_of c.deref.result.now) (value_of c.in_ok-value.value) fits.state.heap);
        globals = fits.state.globals;
      };
    })
