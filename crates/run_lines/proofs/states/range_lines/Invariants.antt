-- What is written and what is left are all lines; what is left ends in the space.
use Rattle.std.proofs.Common.{◌≡◌, ◌++◌, length, map}
use Rattle.c_memory.specs.CodeHeap.{memory_of}
use Rattle.c_memory.specs.Ranges.{run_of}
use Rattle.run_lines.specs.CodeEnds.{EndInSpace}
use Rattle.run_lines.specs.RunLines.{range_lines}
use Rattle.run_lines.proofs.states.range_lines.Given as goal

abbrev pub invariant-left : goal.invariant-left
invariant-left l = record {
  same : l.lines.items ++ range_lines l.who (memory_of l.heap).bytes (map run_of l.rest) ≡ l.fn.lines.items ++ range_lines l.who (memory_of l.heap).bytes (map run_of l.fn.ranges);
  ends : EndInSpace (map run_of l.rest);
}

abbrev pub decreases-left : goal.decreases-left
decreases-left l = length l.rest
