-- What is left, behind what is written, is the whole.
use Rattle.std.proofs.Common.{◌≡◌, map, length}
use Rattle.ac_sx.specs.Writing.{all_written}
use Rattle.expression_lang.specs.CodeExpression.{kind_of}
use Rattle.expression_text.specs.Lists.{trees_for}
use Rattle.program_text.specs.Kinds.{kind_tree}
use Rattle.unit_text.proofs.writing.kinds_into.Given as goal

abbrev pub invariant-kinds : goal.invariant-kinds
invariant-kinds g l =
    all_written g.W.TreeWriter.writing (g.W.TreeWriter.state l.out) (trees_for kind_tree (map kind_of l.rest))
    ≡ all_written g.W.TreeWriter.writing (g.W.TreeWriter.writing.entered (g.W.TreeWriter.state l.fn.out)) (trees_for kind_tree (map kind_of l.fn.kinds))

abbrev pub decreases-kinds : goal.decreases-kinds
decreases-kinds g l = length l.rest
