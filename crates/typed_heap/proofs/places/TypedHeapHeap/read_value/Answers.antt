-- What is read is the value at the place, or the zeros of its type.
use Rattle.std.proofs.Common.{◌≡◌, ◌∙◌, false, IfOk, List, Bor, map, ap, subst, sym}
use Rattle.std.specs.Option.{option_map}
use Rattle.c_values.specs.declared.types.CType as C
use Rattle.c_values.specs.Layout.{Shape, shape_of}
use Rattle.c_values.specs.Path.{spot}
use Rattle.c_values.specs.CodeTypes.{type_of}
use Rattle.c_values.specs.CodeValue.{value_of}
use Rattle.c_memory.specs.Memory.{Tag}
use Rattle.c_memory.specs.Tags.{is_covered}
use Rattle.c_memory.specs.CodeStep.{step_of}
use Rattle.typed_heap.specs.CodeCells.{cells_of}
use Rattle.typed_heap.proofs.Typed.{shape_at, place_zeros}
use Rattle.typed_heap.proofs.Found.{tags_from, read_uncovered}
use Rattle.typed_heap.proofs.places.TypedHeapHeap.read_value.Goals as goal

pub returns-in-Some : goal.returns-in-Some
returns-in-Some c = subst (λ v. IfOk c.copy_value.result (λ copy. value_of copy ≡ v)) c.in-Some.ensures.some c.copy_value.ensures.copy

pub returns-in-None : goal.returns-in-None
returns-in-None c =
    let l = c.args.l.now in
    let h = c.args.self.now in
    let t = type_of c.args.t.now in
    let path = map step_of c.args.path.now in
    let none = subst (λ (ts : List Tag). is_covered l ts t c.args.address ≡ false) (sym (tags_from h.tags h.values.items h.each)) c.in-None.ensures.none in
    let f : Bor C.CType → Shape = λ u. shape_of l (type_of u.now) in
    let shape : option_map f c.type_at.result ≡ shape_at (spot (shape_of l t) path) = c.type_at.ensures.shape in
    subst (λ v. IfOk c.zeros.result (λ z. value_of z ≡ v))
    (place_zeros (shape_of l (type_of c.unwrap.result.now)) (spot (shape_of l t) path) (sym (ap (option_map f) c.unwrap.ensures) ∙ shape) ∙ sym (read_uncovered l t c.args.address path (cells_of h) none))
    c.zeros.ensures
