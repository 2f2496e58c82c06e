-- The ranges and the tags of a memory of the unit are those that a heap is made from.
use Rattle.std.proofs.Common.{◌≡◌, ℕ, map, sym, subst, arith, Some}
use Rattle.std.specs.Prelude.{slice_get}
use Rattle.c_values.specs.Layout.{space}
use Rattle.c_memory.specs.CodeTag.{tag_of}
use Rattle.c_memory.specs.Memory.{Tag}
use Rattle.c_memory.specs.Ranges.{run_of, AreRuns}
use Rattle.c_memory.specs.TagFault.{IsRoot}
use Rattle.c_lang.specs.CodeTyped.{unit_of}
use Rattle.memory_text.specs.CodeMemory.{memory_of}
use Rattle.run_start.proofs.Begins.{memory_parts}
use Rattle.run_start.proofs.Runs.{runs_apart, tags_are_roots}
use Rattle.run_start.proofs.heap.heap_of.Goals as goal

pub new-requires-clause-bytes : goal.new-requires-clause-bytes
new-requires-clause-bytes c =
    let l = c.args.unit.now.layout in
    let m = memory_parts (unit_of c.args.unit.now) (memory_of c.args.memory.now) c.requires in
    subst (λ rs. AreRuns 0 (space l) (map run_of rs)) (sym c.deref.ensures.value) (runs_apart l 0 (map run_of c.args.memory.now.bytes.items) (omega arith) m.bytes)

pub new-requires-clause-tags : goal.new-requires-clause-tags
new-requires-clause-tags c =
    let l = c.args.unit.now.layout in
    let m = memory_parts (unit_of c.args.unit.now) (memory_of c.args.memory.now) c.requires in
    subst (λ ts. (k : ℕ) (t : Tag) → slice_get (map tag_of ts) k ≡ Some t → IsRoot l t) (sym c.deref-2.ensures.value)
    (tags_are_roots l (map tag_of c.args.memory.now.tags.items) m.tags)
