use Rattle.std.proofs.Common.{map, Some, ap, ◌∙◌}
use Rattle.std.specs.Option.{option_map}
use Rattle.c_values.specs.CodeTypes.{type_of}
use Rattle.c_values.specs.CodeLayout.{struct_def_of}
use Rattle.c_values.specs.Layout.{shape_of}
use Rattle.memory_text.specs.CodeTypes.{types_in}
use Rattle.memory_text.proofs.Shapes.{no_parts, struct_parts, members_shapes}
use Rattle.memory_text.proofs.types.members_of.Goals as goal

pub returns-in_err-definition : goal.returns-in_err-definition
returns-in_err-definition c =
    ap (option_map (λ types. map (shape_of c.args.layout.now) (types_in types))) c.from_residual.ensures ∙ no_parts c.args.layout.now c.args.name.now c.in_err-definition.ensures

pub returns : goal.returns
returns c =
    let l = c.args.layout.now in
    let d = c.in_ok-definition.definition.now in
    ap (λ ms. Some (map (shape_of l) (map (λ m. type_of m.1) ms))) c.deref.ensures.value
    ∙ ap Some (members_shapes l d.members.items)
    ∙ struct_parts l c.args.name.now (struct_def_of d) c.target-target.ensures.layout c.in_ok-definition.ensures
