-- A write changes nothing where no tag covers the root, and the copy of a scalar can't be refused.
use Rattle.std.proofs.Common.{◌≡◌, false, List, map, ap, subst, sym}
use Rattle.std.proofs.lemmas.Bool.{false≢true}
use Rattle.c_values.specs.Layout.{shape_of}
use Rattle.c_values.specs.Path.{spot}
use Rattle.c_values.specs.CodeTypes.{type_of}
use Rattle.c_values.specs.CodeValue.{value_of}
use Rattle.c_memory.specs.Memory.{Tag}
use Rattle.c_memory.specs.Heap.{OnTypes}
use Rattle.c_memory.specs.Tags.{AreTags, is_covered}
use Rattle.c_memory.specs.CodeStep.{step_of}
use Rattle.typed_heap.specs.CodeCells.{cells_of}
use Rattle.typed_heap.proofs.Typed.{scalar_parts}
use Rattle.typed_heap.proofs.Found.{tags_from, write_uncovered}
use Rattle.typed_heap.proofs.places.TypedHeapHeap.write_value.Goals as goal

pub find-requires : goal.find-requires
find-requires c = let h = c.args.self.now in subst (λ ts. AreTags c.args.l.now ts) (tags_from h.tags h.values.items h.each) c.requires.heap.0

pub returns-in_default-clause-written : goal.returns-in_default-clause-written
returns-in_default-clause-written c =
    let l = c.args.l.now in
    let h = c.args.self.now in
    let t = type_of c.args.t.now in
    let none = subst (λ (ts : List Tag). is_covered l ts t c.args.address ≡ false) (sym (tags_from h.tags h.values.items h.each)) c.in_default.ensures.none in
    sym (ap OnTypes (write_uncovered l t c.args.address (map step_of c.args.path.now) (value_of c.args.value.now) (cells_of h) none))

pub returns-in_err-value-clause-scalar : goal.returns-in_err-value-clause-scalar
returns-in_err-value-clause-scalar c scalar =
    let o = spot (shape_of c.args.l.now (type_of c.args.t.now)) (map step_of c.args.path.now) in
    absurd (false≢true (c.in_err-value.ensures.scalar (scalar_parts o (value_of c.args.value.now) scalar c.requires.place)))
