use Rattle.std.proofs.Common.{Some, ap, sym, ◌∙◌}
use Rattle.std.specs.Prelude.{replicate}
use Rattle.c_values.specs.CodeTypes.{type_of}
use Rattle.c_values.specs.Layout.{shape_of}
use Rattle.memory_text.specs.ValueText.{parts_of}
use Rattle.memory_text.proofs.Shapes.{elements_shapes}
use Rattle.memory_text.proofs.types.types_of.Goals as goal

pub returns-in-Array : goal.returns-in-Array
returns-in-Array c =
    let l = c.args.layout.now in
    let n = c.in-Array.length in
    ap Some (elements_shapes l n (type_of c.deref.result.now))
    ∙ ap (λ u. Some (replicate n (shape_of l (type_of u)))) c.deref.ensures
    ∙ ap (λ u. parts_of (shape_of l (type_of u))) (sym c.in-Array.is)
