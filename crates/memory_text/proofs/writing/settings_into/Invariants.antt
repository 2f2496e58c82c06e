-- What is left, behind what is written, is the whole.
use Rattle.std.proofs.Common.{◌≡◌, map, length}
use Rattle.std.specs.Prelude.{codes}
use Rattle.ac_sx.specs.Writing.{all_written}
use Rattle.memory_text.specs.CodeMemory.{setting_of}
use Rattle.expression_text.specs.Lists.{trees_for}
use Rattle.memory_text.specs.MemoryText.{setting_tree}
use Rattle.memory_text.proofs.writing.settings_into.Given as goal

abbrev pub invariant-settings : goal.invariant-settings
invariant-settings g l =
    all_written g.W.TreeWriter.writing (g.W.TreeWriter.state l.out) (trees_for setting_tree (map setting_of l.rest))
    ≡ all_written g.W.TreeWriter.writing (g.W.TreeWriter.writing.put (g.W.TreeWriter.writing.entered (g.W.TreeWriter.state l.fn.out)) (codes "globals")) (trees_for setting_tree (map setting_of l.fn.settings))

abbrev pub decreases-settings : goal.decreases-settings
decreases-settings g l = length l.rest
