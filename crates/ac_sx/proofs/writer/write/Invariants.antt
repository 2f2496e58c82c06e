-- What is written and what is left are the text.
use Rattle.std.proofs.Common.{◌≡◌, ◌++◌}
use Rattle.ac_sx.specs.Tree.{spelling}
use Rattle.ac_sx.specs.CodeSx.{tree_of}
use Rattle.ac_sx.specs.CodeWriter.{lists_behind, nodes_behind, left_of}
use Rattle.ac_sx.proofs.writer.write.Given as goal

abbrev pub invariant-lists : goal.invariant-lists
invariant-lists l = l.text.items ++ lists_behind (left_of l.lists.items) ≡ spelling (tree_of l.tree)

abbrev pub decreases-lists : goal.decreases-lists
decreases-lists l = nodes_behind (left_of l.lists.items)
