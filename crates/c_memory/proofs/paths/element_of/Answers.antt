use Rattle.std.proofs.Common.{◌≡◌, ◌^◌, true, Some, pos, ◌*ℤ◌, ap, ap₂, sym, ◌∙◌, subst}
use Rattle.c_values.specs.Types.{CType, Array, address_width}
use Rattle.c_values.specs.Layout.{is_object, space, shape_of, size_of}
use Rattle.c_values.specs.Path.{Index, step_spot}
use Rattle.c_values.specs.CodeTypes.{type_of}
use Rattle.c_memory.specs.Memory.{address_at}
use Rattle.c_memory.specs.CodePlace.{place_of, place_from}
use Rattle.c_memory.proofs.Walks.{element_object, element_size, struct_elements}
use Rattle.c_memory.proofs.paths.element_of.Goals as goal

pub returns-in-Array-clause-object : goal.returns-in-Array-clause-object
returns-in-Array-clause-object c =
    let object = subst (λ (t : CType). is_object c.args.l.now t ≡ true) (ap type_of c.in-Array.is) c.requires.object in
    subst (λ t. is_object c.args.l.now (type_of t) ≡ true) (sym c.deref.ensures)
    (element_object c.args.l.now (type_of c.in-Array.element.value) c.in-Array.length object)

pub returns-in-Array-clause-place : goal.returns-in-Array-clause-place
returns-in-Array-clause-place c =
    let l = c.args.l.now in
    let whole = c.args.whole in
    let u = type_of c.in-Array.element.value in
    let n = c.in-Array.length in
    let ty : type_of whole.ty.now ≡ Array u n = ap type_of c.in-Array.is in
    let object = subst (λ (t : CType). is_object l t ≡ true) ty c.requires.object in
    let each = element_size l u n whole.size object (c.requires.size ∙ ap (λ t. size_of l t) ty) in
    let at : c.element_address.result ≡ address_at (space l) whole.address (c.args.index *ℤ pos (size_of l u)) =
    c.element_address.ensures ∙ ap₂ (λ w bytes. address_at (2 ^ address_width w) whole.address (c.args.index *ℤ pos bytes)) c.requires.target each in
    ap₂ (λ a t. Some (place_of l a (type_of t))) at c.deref.ensures
    ∙ sym (ap (λ t. place_from (space l) whole.address (step_spot (shape_of l t) (Index c.args.index))) ty)

pub returns-in-Struct-clause-place : goal.returns-in-Struct-clause-place
returns-in-Struct-clause-place c =
    let e = ap type_of c.in-Struct.is in
    let object = subst (λ (t : CType). is_object c.args.l.now t ≡ true) e c.requires.object in
    sym (ap (λ o. place_from (space c.args.l.now) c.args.whole.address o)
    (ap (λ t. step_spot (shape_of c.args.l.now t) (Index c.args.index)) e ∙ struct_elements c.args.l.now _ c.args.index c.requires.layout object))
