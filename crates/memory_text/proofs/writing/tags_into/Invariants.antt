-- What is left, behind what is written, is the whole.
use Rattle.std.proofs.Common.{◌≡◌, map, length}
use Rattle.std.specs.Prelude.{codes}
use Rattle.ac_sx.specs.Writing.{all_written}
use Rattle.c_memory.specs.CodeTag.{tag_of}
use Rattle.expression_text.specs.Lists.{trees_for}
use Rattle.memory_text.specs.MemoryText.{tag_tree}
use Rattle.memory_text.proofs.writing.tags_into.Given as goal

abbrev pub invariant-tags : goal.invariant-tags
invariant-tags g l =
    all_written g.W.TreeWriter.writing (g.W.TreeWriter.state l.out) (trees_for tag_tree (map tag_of l.rest))
    ≡ all_written g.W.TreeWriter.writing (g.W.TreeWriter.writing.put (g.W.TreeWriter.writing.entered (g.W.TreeWriter.state l.fn.out)) (codes "tags")) (trees_for tag_tree (map tag_of l.fn.tags))

abbrev pub decreases-tags : goal.decreases-tags
decreases-tags g l = length l.rest
