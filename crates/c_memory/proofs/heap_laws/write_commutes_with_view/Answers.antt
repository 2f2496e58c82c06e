use Rattle.std.proofs.Common.{◌∙◌, ap, map}
use Rattle.c_memory.specs.Heap.{OnTypes}
use Rattle.c_memory.proofs.Views.{cell_at, writes_agree, store_here}
use Rattle.c_memory.proofs.heap_laws.write_commutes_with_view.Goals as goal

pub returns : goal.returns
returns c l m t a path q v h tagged covered range e shaped =
    ap OnTypes (ap (λ bytes. map (cell_at l bytes) m.tags) (store_here l h t a path q range e v m.bytes)
    ∙ writes_agree l h t a path q range e v shaped m.bytes m.tags tagged.tags covered)
