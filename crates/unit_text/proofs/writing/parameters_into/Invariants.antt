-- What is left, behind what is written, is the whole.
use Rattle.std.proofs.Common.{◌≡◌, map, length}
use Rattle.ac_sx.specs.Writing.{all_written}
use Rattle.expression_lang.specs.CodeSignature.{binder_of}
use Rattle.expression_text.specs.Lists.{trees_for}
use Rattle.unit_text.specs.UnitText.{parameter_tree}
use Rattle.unit_text.proofs.writing.parameters_into.Given as goal

abbrev pub invariant-parameters : goal.invariant-parameters
invariant-parameters g l =
    all_written g.W.TreeWriter.writing (g.W.TreeWriter.state l.out) (trees_for parameter_tree (map binder_of l.rest))
    ≡ all_written g.W.TreeWriter.writing (g.W.TreeWriter.writing.entered (g.W.TreeWriter.state l.fn.out)) (trees_for parameter_tree (map binder_of l.fn.parameters))

abbrev pub decreases-parameters : goal.decreases-parameters
decreases-parameters g l = length l.rest
