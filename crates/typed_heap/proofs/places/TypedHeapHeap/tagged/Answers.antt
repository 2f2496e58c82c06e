-- A root is covered where a tag was found for it.
use Rattle.std.proofs.Common.{◌∙◌, List, ap, sym, subst}
use Rattle.c_values.specs.CodeTypes.{type_of}
use Rattle.c_memory.specs.Memory.{Tag}
use Rattle.c_memory.specs.Tags.{AreTags, is_covered}
use Rattle.c_memory.proofs.Read.{found_covered}
use Rattle.typed_heap.proofs.Found.{tags_from}
use Rattle.typed_heap.proofs.places.TypedHeapHeap.tagged.Goals as goal

pub find-requires : goal.find-requires
find-requires c = let h = c.args.self.now in subst (λ ts. AreTags c.args.l.now ts) (tags_from h.tags h.values.items h.each) c.requires.heap.0

pub returns : goal.returns
returns c =
    let h = c.args.self.now in
    c.is_some.ensures
    ∙ found_covered c.args.l.now h.tags (type_of c.args.t.now) c.args.address c.find.result c.find.ensures.none c.find.ensures.some
    ∙ ap (λ (ts : List Tag). is_covered c.args.l.now ts (type_of c.args.t.now) c.args.address) (sym (tags_from h.tags h.values.items h.each))
