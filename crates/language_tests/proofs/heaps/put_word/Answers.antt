-- A heap stays one that can be when a word is put at a scalar's place.
use Rattle.std.proofs.Common.{◌∙◌, map, pos, ap, subst, sym}
use Rattle.std.specs.Prelude.{IsSomeAnd}
use Rattle.c_values.specs.Word.{word}
use Rattle.c_values.specs.Value.{Bits}
use Rattle.c_values.specs.Layout.{shape_of}
use Rattle.c_values.specs.Path.{spot, HasShape}
use Rattle.c_values.specs.CodeTypes.{type_of}
use Rattle.c_memory.specs.CodeStep.{step_of}
use Rattle.c_memory.specs.Heap.{write_heap}
use Rattle.typed_heap.proofs.Heaps.{place_word, written, kept}
use Rattle.language_tests.proofs.heaps.put_word.Goals as goal

pub returns : goal.returns
returns g c =
    let l = c.args.l.now in
    let old = g.H.Heap.content c.args.h.now in
    let t = type_of c.args.t.now in
    let path = map step_of c.args.path.now in
    let o = spot (shape_of l t) path in
    let new = c.word-new.result in
    let is = c.word-new.ensures ∙ ap (λ n. word c.in-Some-bits_of.width n) c.new-number.ensures ∙ ap (λ n. word c.in-Some-bits_of.width (pos n)) c.from.ensures in
    let here = place_word l (type_of c.in-Some.part.now) o c.in-Some-bits_of.width c.args.bits c.in-Some.ensures.shape c.in-Some-bits_of.ensures.scalar c.in-Some-bits_of.ensures.width in
    let fits = subst (λ w. IsSomeAnd o (λ q. HasShape q.shape (Bits w))) (sym is) here in
    kept l old (g.H.Heap.content c.write_value.new.self) (write_heap l old t c.args.address path (Bits new)) c.write_value.result c.write_value.ensures.written c.write_value.ensures.unchanged c.requires
    (written l old t c.args.address path (Bits new) c.in-Some.ensures.layout c.requires c.in-Some.ensures.whole fits)
