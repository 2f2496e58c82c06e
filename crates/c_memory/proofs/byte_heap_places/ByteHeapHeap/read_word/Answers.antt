use Rattle.std.proofs.Common.{◌≡◌, ◌∙◌, true, Option, IfSome, map, ap, sym, subst}
use Rattle.std.specs.Option.{option_map}
use Rattle.c_values.specs.Layout.{shape_of, space, is_object}
use Rattle.c_values.specs.Path.{spot}
use Rattle.c_values.specs.CodeTypes.{type_of}
use Rattle.c_memory.specs.declared.paths.Place as P
use Rattle.c_memory.specs.CodeStep.{step_of}
use Rattle.c_memory.specs.CodePlace.{Place, place_of, place_from}
use Rattle.c_memory.proofs.Read.{scalar_place}
use Rattle.c_memory.proofs.byte_heap_places.ByteHeapHeap.read_word.Goals as goal

pub load_word-requires-clause-scalar : goal.load_word-requires-clause-scalar
load_word-requires-clause-scalar c =
    let l = c.args.l.now in
    let o = spot (shape_of l (type_of c.args.t.now)) (map step_of c.args.path.now) in
    let f : P.Place → Place = λ p. place_of l p.address (type_of p.ty.now) in
    let r = c.unwrap-place.result in
    let place : option_map f c.place_at.result ≡ place_from (space l) c.args.address o = c.place_at.ensures.place in
    let object : IfSome c.place_at.result (λ p. is_object l (type_of p.ty.now) ≡ true) = c.place_at.ensures.object in
    scalar_place l c.args.address o r.address (type_of r.ty.now) c.place_at.ensures.layout
    (subst (λ (q : Option P.Place). IfSome q (λ p. is_object l (type_of p.ty.now) ≡ true)) c.unwrap-place.ensures object)
    (sym (ap (option_map f) c.unwrap-place.ensures) ∙ place) c.requires.place
