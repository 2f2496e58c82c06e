-- The bytes so far.
use Rattle.std.proofs.Common.{◌≡◌}
use Rattle.c_memory.specs.CodeHeap.{memory_of}
use Rattle.run_lines.specs.RunLines.{bytes_from}
use Rattle.run_lines.proofs.lines.bytes_from.Given as goal

abbrev pub invariant-bytes : goal.invariant-bytes
invariant-bytes l = l.bytes.items ≡ bytes_from (memory_of l.heap).bytes l.address l.k
