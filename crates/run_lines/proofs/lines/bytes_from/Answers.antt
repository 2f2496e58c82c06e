use Rattle.std.proofs.Common.{[], ◌∷◌, ◌++◌, ap₂, sym, ◌∙◌}
use Rattle.c_memory.specs.CodeHeap.{memory_of}
use Rattle.run_lines.proofs.Texts.{bytes_more}
use Rattle.run_lines.proofs.lines.bytes_from.Goals as goal

pub bytes-preserved : goal.bytes-preserved
bytes-preserved c =
    c.in_ok-push.ensures.items ∙ ap₂ (λ bs b. bs ++ b ∷ []) c.bytes.invariant c.byte.ensures ∙ sym (bytes_more (memory_of c.args.heap.now).bytes c.args.address c.bytes.k)
