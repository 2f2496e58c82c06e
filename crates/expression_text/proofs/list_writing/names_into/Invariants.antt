-- What is left, behind what is written, is the whole.
use Rattle.std.proofs.Common.{◌≡◌, map, length, string_bytes}
use Rattle.ac_sx.specs.Tree.{Atom}
use Rattle.ac_sx.specs.Writing.{all_written}
use Rattle.expression_text.specs.Lists.{trees_for}
use Rattle.expression_text.proofs.list_writing.names_into.Given as goal

abbrev pub invariant-names : goal.invariant-names
invariant-names g l =
    all_written g.W.TreeWriter.writing (g.W.TreeWriter.state l.out) (trees_for Atom (map string_bytes l.rest))
    ≡ all_written g.W.TreeWriter.writing (g.W.TreeWriter.writing.entered (g.W.TreeWriter.state l.fn.out)) (trees_for Atom (map string_bytes l.fn.names))

abbrev pub decreases-names : goal.decreases-names
decreases-names g l = length l.rest
