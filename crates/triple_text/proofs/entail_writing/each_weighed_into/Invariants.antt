-- What is left, behind what is written, is the whole.
use Rattle.std.proofs.Common.{◌≡◌, map, length}
use Rattle.ac_sx.specs.Writing.{all_written}
use Rattle.expression_text.specs.Lists.{trees_for}
use Rattle.triple_lang.specs.CodeEntail.{weighed_of}
use Rattle.triple_text.specs.EntailText.{weighed_tree}
use Rattle.triple_text.proofs.entail_writing.each_weighed_into.Given as goal

abbrev pub invariant-facts : goal.invariant-facts
invariant-facts g l =
    all_written g.W.TreeWriter.writing (g.W.TreeWriter.state l.out) (trees_for weighed_tree (map weighed_of l.rest))
    ≡ all_written g.W.TreeWriter.writing (g.W.TreeWriter.state l.fn.out) (trees_for weighed_tree (map weighed_of l.fn.facts))

abbrev pub decreases-facts : goal.decreases-facts
decreases-facts g l = length l.rest
