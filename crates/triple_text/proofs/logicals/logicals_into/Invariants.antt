-- What is left, behind what is written, is the whole.
use Rattle.std.proofs.Common.{◌≡◌, map, length}
use Rattle.ac_sx.specs.Writing.{all_written}
use Rattle.expression_text.specs.Lists.{trees_for}
use Rattle.triple_lang.specs.CodeDeriv.{logical_of}
use Rattle.triple_text.specs.TripleText.{logical_tree}
use Rattle.triple_text.proofs.logicals.logicals_into.Given as goal

abbrev pub invariant-logicals : goal.invariant-logicals
invariant-logicals g l =
    all_written g.W.TreeWriter.writing (g.W.TreeWriter.state l.out) (trees_for logical_tree (map logical_of l.rest))
    ≡ all_written g.W.TreeWriter.writing (g.W.TreeWriter.writing.entered (g.W.TreeWriter.state l.fn.out)) (trees_for logical_tree (map logical_of l.fn.logicals))

abbrev pub decreases-logicals : goal.decreases-logicals
decreases-logicals g l = length l.rest
