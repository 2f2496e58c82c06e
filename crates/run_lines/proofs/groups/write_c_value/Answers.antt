-- The ranges end in the space.
use Rattle.std.proofs.Common.{map, sym, subst}
use Rattle.c_memory.specs.Ranges.{run_of}
use Rattle.c_lang.specs.CodeTyped.{unit_of}
use Rattle.memory_text.specs.CodeMemory.{memory_of}
use Rattle.run_start.proofs.Begins.{memory_parts}
use Rattle.run_lines.specs.CodeEnds.{EndInSpace}
use Rattle.run_lines.proofs.Ranges.{ends_in_space}
use Rattle.run_lines.proofs.groups.write_c_value.Goals as goal

pub range_lines-requires : goal.range_lines-requires
range_lines-requires c =
    let u = unit_of c.args.unit.now in
    let m = memory_parts u (memory_of c.args.memory.now) c.requires.memory in
    subst (λ rs. EndInSpace (map run_of rs)) (sym c.deref-3.ensures.value) (ends_in_space u.layout 0 (map run_of c.args.memory.now.bytes.items) m.bytes)
