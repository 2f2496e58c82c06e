use Rattle.std.proofs.Common.{◌∙◌, sym}
use Rattle.c_memory.proofs.Views.{reads_agree, load_here}
use Rattle.c_memory.proofs.heap_laws.view_reads_what_memory_has.Goals as goal

pub returns : goal.returns
returns c l m t a path q h tagged covered range e =
    reads_agree l h t a path q range e m.bytes m.tags tagged.tags covered ∙ sym (load_here l h t a path q range e m.bytes)
