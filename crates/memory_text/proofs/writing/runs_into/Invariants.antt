-- What is left, behind what is written, is the whole.
use Rattle.std.proofs.Common.{◌≡◌, map, length}
use Rattle.std.specs.Prelude.{codes}
use Rattle.ac_sx.specs.Writing.{all_written}
use Rattle.c_memory.specs.Ranges.{run_of}
use Rattle.expression_text.specs.Lists.{trees_for}
use Rattle.memory_text.specs.MemoryText.{run_tree}
use Rattle.memory_text.proofs.writing.runs_into.Given as goal

abbrev pub invariant-runs : goal.invariant-runs
invariant-runs g l =
    all_written g.W.TreeWriter.writing (g.W.TreeWriter.state l.out) (trees_for run_tree (map run_of l.rest))
    ≡ all_written g.W.TreeWriter.writing (g.W.TreeWriter.writing.put (g.W.TreeWriter.writing.entered (g.W.TreeWriter.state l.fn.out)) (codes "bytes")) (trees_for run_tree (map run_of l.fn.runs))

abbrev pub decreases-runs : goal.decreases-runs
decreases-runs g l = length l.rest
