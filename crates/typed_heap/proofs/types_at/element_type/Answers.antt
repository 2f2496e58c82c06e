-- Elements of arrays are objects, and structs have no elements.
use Rattle.std.proofs.Common.{◌≡◌, true, ap, sym, ◌∙◌, subst}
use Rattle.c_values.specs.Types.{CType}
use Rattle.c_values.specs.Layout.{is_object, shape_of}
use Rattle.c_values.specs.Path.{Index, step_spot}
use Rattle.c_values.specs.CodeTypes.{type_of}
use Rattle.c_memory.proofs.Walks.{element_object, struct_elements}
use Rattle.typed_heap.proofs.Typed.{shape_at}
use Rattle.typed_heap.proofs.types_at.element_type.Goals as goal

pub returns-in-Array-clause-object : goal.returns-in-Array-clause-object
returns-in-Array-clause-object c l h =
    let object = subst (λ (t : CType). is_object l t ≡ true) (ap type_of c.in-Array.is) h in
    subst (λ t. is_object l (type_of t) ≡ true) (sym c.deref.ensures)
    (element_object l (type_of c.in-Array.element.value) c.in-Array.field-1 object)

pub returns-in-Struct-clause-shape : goal.returns-in-Struct-clause-shape
returns-in-Struct-clause-shape c l i h o =
    let e = ap type_of c.in-Struct.is in
    let object = subst (λ (t : CType). is_object l t ≡ true) e o in
    sym (ap shape_at (ap (λ t. step_spot (shape_of l t) (Index i)) e ∙ struct_elements l _ i h object))
