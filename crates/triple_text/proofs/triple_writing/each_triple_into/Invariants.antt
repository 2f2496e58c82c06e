-- What is left, behind what is written, is the whole.
use Rattle.std.proofs.Common.{◌≡◌, map, length}
use Rattle.ac_sx.specs.Writing.{all_written}
use Rattle.expression_text.specs.Lists.{trees_for}
use Rattle.triple_lang.specs.CodeDeriv.{triple_of}
use Rattle.triple_text.specs.TripleText.{triple_tree}
use Rattle.triple_text.proofs.triple_writing.each_triple_into.Given as goal

abbrev pub invariant-triples : goal.invariant-triples
invariant-triples g l =
    all_written g.W.TreeWriter.writing (g.W.TreeWriter.state l.out) (trees_for triple_tree (map triple_of l.rest))
    ≡ all_written g.W.TreeWriter.writing (g.W.TreeWriter.state l.fn.out) (trees_for triple_tree (map triple_of l.fn.triples))

abbrev pub decreases-triples : goal.decreases-triples
decreases-triples g l = length l.rest
