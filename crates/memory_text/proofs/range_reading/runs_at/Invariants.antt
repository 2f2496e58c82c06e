-- The ranges so far, and those to come, are the whole.
use Rattle.std.proofs.Common.{◌≡◌, length}
use Rattle.ac_sx.specs.CodeSx.{trees_in}
use Rattle.c_memory.specs.Ranges.{run_of}
use Rattle.memory_text.specs.MemoryReading.{chained_at, run_at}
use Rattle.memory_text.proofs.Chained.{so_far}
use Rattle.memory_text.proofs.range_reading.runs_at.Given as goal

abbrev pub invariant-runs : goal.invariant-runs
invariant-runs l = so_far run_of (run_at l.layout) l.runs.items l.from l.here (trees_in l.rest) ≡ chained_at (run_at l.layout) 0 l.fn.at (trees_in l.fn.parts)

abbrev pub decreases-runs : goal.decreases-runs
decreases-runs l = length l.rest
