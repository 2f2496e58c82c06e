-- What is left, behind what is written, is the whole.
use Rattle.std.proofs.Common.{◌≡◌, map, length}
use Rattle.ac_sx.specs.Writing.{all_written}
use Rattle.expression_text.specs.Lists.{trees_for}
use Rattle.simpl_lang.specs.CodeCommand.{condition_of}
use Rattle.command_text.specs.CommandText.{condition_tree}
use Rattle.command_text.proofs.conditions.conditions_into.Given as goal

abbrev pub invariant-conditions : goal.invariant-conditions
invariant-conditions g l =
    all_written g.W.TreeWriter.writing (g.W.TreeWriter.state l.out) (trees_for condition_tree (map condition_of l.rest))
    ≡ all_written g.W.TreeWriter.writing (g.W.TreeWriter.writing.entered (g.W.TreeWriter.state l.fn.out)) (trees_for condition_tree (map condition_of l.fn.conditions))

abbrev pub decreases-conditions : goal.decreases-conditions
decreases-conditions g l = length l.rest
