-- A heap stays one that can be when a value is copied to another place of its type.
use Rattle.std.proofs.Common.{[]}
use Rattle.c_values.specs.CodeTypes.{type_of}
use Rattle.c_values.specs.CodeValue.{value_of}
use Rattle.c_memory.specs.Heap.{write_heap}
use Rattle.typed_heap.proofs.Heaps.{whole_read, written, kept}
use Rattle.language_tests.proofs.heaps.copy_value.Goals as goal

pub write_value-requires-clause-place : goal.write_value-requires-clause-place
write_value-requires-clause-place g c =
    whole_read c.args.l.now (g.H.Heap.content c.args.h.now) (type_of c.args.t.now) c.args.from (value_of c.in_ok-value.value) c.in-Some.ensures.layout c.requires c.in-Some.ensures.whole c.in_ok-value.ensures

pub returns : goal.returns
returns g c =
    let l = c.args.l.now in
    let old = g.H.Heap.content c.args.h.now in
    let t = type_of c.args.t.now in
    let v = value_of c.in_ok-value.value in
    let fits = whole_read l old t c.args.from v c.in-Some.ensures.layout c.requires c.in-Some.ensures.whole c.in_ok-value.ensures in
    kept l old (g.H.Heap.content c.write_value.new.self) (write_heap l old t c.args.to [] v) c.write_value.result c.write_value.ensures.written c.write_value.ensures.unchanged c.requires
    (written l old t c.args.to [] v c.in-Some.ensures.layout c.requires c.in-Some.ensures.whole fits)
