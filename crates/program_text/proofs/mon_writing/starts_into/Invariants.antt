-- What is left, behind what is written, is the whole.
use Rattle.std.proofs.Common.{◌≡◌, map, length}
use Rattle.ac_sx.specs.Writing.{all_written}
use Rattle.expression_text.specs.Lists.{trees_for}
use Rattle.monad_lang.specs.CodeProgram.{start_of}
use Rattle.program_text.specs.MonText.{start_tree}
use Rattle.program_text.proofs.mon_writing.starts_into.Given as goal

abbrev pub invariant-starts : goal.invariant-starts
invariant-starts g l =
    all_written g.W.TreeWriter.writing (g.W.TreeWriter.state l.out) (trees_for start_tree (map start_of l.rest))
    ≡ all_written g.W.TreeWriter.writing (g.W.TreeWriter.writing.entered (g.W.TreeWriter.state l.fn.out)) (trees_for start_tree (map start_of l.fn.starts))

abbrev pub decreases-starts : goal.decreases-starts
decreases-starts g l = length l.rest
