use Rattle.std.proofs.Common.{Some, map, ap, subst, ◌∙◌}
use Rattle.ac_sx.specs.CodeSx.{trees_in}
use Rattle.c_values.specs.CodeParts.{values_in}
use Rattle.c_values.specs.CodeTypes.{type_of}
use Rattle.c_values.specs.Layout.{shape_of}
use Rattle.expression_text.specs.CodeFault.{Gives}
use Rattle.memory_text.specs.ValueReading.{counted, values_at}
use Rattle.memory_text.proofs.Shapes.{parameters_shapes}
use Rattle.memory_text.proofs.call_reading.arguments_at.Goals as goal

pub returns : goal.returns
returns c =
    let l = c.args.layout.now in
    let ts = trees_in c.args.parts.now in
    subst (λ ss. Gives (λ arguments. values_in arguments.items) c.values_at.result (counted c.args.at ts (Some ss) (λ rs. values_at l.target rs c.args.inner ts)))
    (ap (λ vs. map (shape_of l) (map (λ v. type_of v.ty) vs)) c.deref.ensures.value ∙ parameters_shapes l c.args.function.now.params.items)
    c.values_at.ensures
