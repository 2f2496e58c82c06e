use Rattle.std.proofs.Common.{sym, subst}
use Rattle.c_memory.specs.Tags.{AreTags}
use Rattle.c_memory.specs.Heap.{OnTypes, IsHeap}
use Rattle.c_memory.specs.CodeHeap.{memory_of}
use Rattle.c_memory.proofs.Cells.{tags_viewed, view_fits}
use Rattle.ac_interp.proofs.abstract_runs.on_view.Goals as goal

pub run_final-requires-clause-heap : goal.run_final-requires-clause-heap
run_final-requires-clause-heap c =
    let l = c.args.u.now.layout in
    let m = memory_of c.args.memory.now in
    subst (λ cells. IsHeap l (OnTypes cells)) (sym c.in-Ok.ensures)
    (subst (λ ts. AreTags l ts) (sym (tags_viewed l m.bytes m.tags)) c.requires.memory.tags, view_fits l c.requires.unit.layout m.bytes c.requires.memory.bytes m.tags c.requires.memory.tags)
