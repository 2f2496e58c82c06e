-- What is left, behind what is written, is the whole.
use Rattle.std.proofs.Common.{◌≡◌, map, length}
use Rattle.ac_sx.specs.Writing.{all_written}
use Rattle.monad_lang.specs.CodeProgram.{final_fn_of}
use Rattle.expression_text.specs.Lists.{trees_for}
use Rattle.unit_text.specs.UnitText.{function_tree}
use Rattle.unit_text.proofs.writing.functions_into.Given as goal

abbrev pub invariant-functions : goal.invariant-functions
invariant-functions g l =
    all_written g.W.TreeWriter.writing (g.W.TreeWriter.state l.out) (trees_for function_tree (map final_fn_of l.rest))
    ≡ all_written g.W.TreeWriter.writing (g.W.TreeWriter.state l.fn.out) (trees_for function_tree (map final_fn_of l.fn.functions))

abbrev pub decreases-functions : goal.decreases-functions
decreases-functions g l = length l.rest
