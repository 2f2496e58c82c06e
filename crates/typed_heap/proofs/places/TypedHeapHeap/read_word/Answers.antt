-- At a scalar's place the value is a word, or its type's zero.
use Rattle.std.proofs.Common.{◌≡◌, ◌∙◌, true, false, List, Option, IfSome, Bor, map, ap, subst, sym}
use Rattle.std.specs.Option.{option_map}
use Rattle.c_values.specs.declared.types.CType as C
use Rattle.c_values.specs.Value.{Bits}
use Rattle.c_values.specs.Layout.{Shape, shape_of, is_object, is_scalar, type_of as scalar_type}
use Rattle.c_values.specs.Path.{spot}
use Rattle.c_values.specs.CodeTypes.{type_of}
use Rattle.c_values.specs.CodeValue.{value_of}
use Rattle.c_memory.specs.Memory.{Tag}
use Rattle.c_memory.specs.Tags.{is_covered}
use Rattle.c_memory.specs.CodeStep.{step_of}
use Rattle.typed_heap.specs.CodeCells.{cells_of}
use Rattle.typed_heap.proofs.Typed.{shape_at, some_of_and, place_zeros, scalar_type_at, scalar_value}
use Rattle.typed_heap.proofs.Found.{tags_from, read_uncovered}
use Rattle.typed_heap.proofs.places.TypedHeapHeap.read_word.Goals as goal

pub value_at-requires-clause-place : goal.value_at-requires-clause-place
value_at-requires-clause-place c =
    some_of_and (spot (shape_of c.args.l.now (type_of c.args.t.now)) (map step_of c.args.path.now)) (λ q. is_scalar (scalar_type q.shape) ≡ true) c.requires.place

pub zero_word-requires : goal.zero_word-requires
zero_word-requires c =
    let l = c.args.l.now in
    let o = spot (shape_of l (type_of c.args.t.now)) (map step_of c.args.path.now) in
    let f : Bor C.CType → Shape = λ u. shape_of l (type_of u.now) in
    let shape : option_map f c.type_at.result ≡ shape_at o = c.type_at.ensures.shape in
    let object : IfSome c.type_at.result (λ u. is_object l (type_of u.now) ≡ true) = c.type_at.ensures.object in
    scalar_type_at l (type_of c.unwrap.result.now) o c.type_at.ensures.layout
    (subst (λ (q : Option (Bor C.CType)). IfSome q (λ u. is_object l (type_of u.now) ≡ true)) c.unwrap.ensures object)
    (sym (ap (option_map f) c.unwrap.ensures) ∙ shape) c.requires.place

pub returns-in-Some : goal.returns-in-Some
returns-in-Some c =
    let o = spot (shape_of c.args.l.now (type_of c.args.t.now)) (map step_of c.args.path.now) in
    ap (λ w. Bits w) c.word_in.ensures ∙ scalar_value o (value_of c.in-Some.value.now) c.requires.place c.in-Some.ensures.shape ∙ c.in-Some.ensures.some

pub returns-in-None : goal.returns-in-None
returns-in-None c =
    let l = c.args.l.now in
    let h = c.args.self.now in
    let t = type_of c.args.t.now in
    let path = map step_of c.args.path.now in
    let none = subst (λ (ts : List Tag). is_covered l ts t c.args.address ≡ false) (sym (tags_from h.tags h.values.items h.each)) c.in-None.ensures.none in
    let f : Bor C.CType → Shape = λ u. shape_of l (type_of u.now) in
    let shape : option_map f c.type_at.result ≡ shape_at (spot (shape_of l t) path) = c.type_at.ensures.shape in
    c.zero_word.ensures
    ∙ place_zeros (shape_of l (type_of c.unwrap.result.now)) (spot (shape_of l t) path) (sym (ap (option_map f) c.unwrap.ensures) ∙ shape)
    ∙ sym (read_uncovered l t c.args.address path (cells_of h) none)
