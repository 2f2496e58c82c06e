-- A root that isn't the object itself is in the part that was found.
use Rattle.std.proofs.Common.{◌++◌, map, ap, sym, ◌∙◌}
use Rattle.std.specs.Option.{option_map}
use Rattle.c_values.specs.Layout.{shape_of}
use Rattle.c_values.specs.CodeTypes.{type_of}
use Rattle.c_memory.specs.CodeInner.{part_step}
use Rattle.c_memory.specs.CodeStep.{step_of}
use Rattle.c_memory.specs.Tags.{root_path, prefixed}
use Rattle.c_memory.proofs.Inside.{root_in, root_in_none}
use Rattle.typed_heap.proofs.Steps.{prefixed_mapped, if_none}
use Rattle.typed_heap.proofs.ways.first_to_root.Goals as goal

pub returns-in_err-part-clause-none : goal.returns-in_err-part-clause-none
returns-in_err-part-clause-none c =
    if_none c.from_residual.result
    (root_in_none c.args.l.now c.requires.layout (type_of c.args.whole.now) c.requires.object (type_of c.args.root.now) c.args.offset c.requires.inner c.in_err-part.ensures.none)

pub returns-clause-some : goal.returns-clause-some
returns-clause-some c =
    let l = c.args.l.now in
    let u = type_of c.args.whole.now in
    let t = type_of c.args.root.now in
    let p = c.in_ok-part.part in
    let inner = root_path (shape_of l (type_of p.ty.now)) t p.offset in
    let path = map step_of c.args.path.now in
    ap (λ o. option_map (λ steps. steps ++ path) o) (root_in l c.requires.layout u c.requires.object t c.args.offset p.index (type_of p.ty.now) p.offset c.requires.inner c.in_ok-part.ensures.some)
    ∙ prefixed_mapped (part_step u p.index) inner path
    ∙ ap (λ q. prefixed q (option_map (λ steps. steps ++ path) inner)) (sym c.step_to-step.ensures)
