-- What is written and what is left are the text.
use Rattle.std.proofs.Common.{◌≡◌, ◌+◌, ◌≤◌, ◌++◌}
use Rattle.ac_sx.specs.Tree.{spelling, nodes}
use Rattle.ac_sx.specs.CodeSx.{tree_of}
use Rattle.ac_sx.specs.CodeWriter.{lists_behind, nodes_behind, left_of}
use Rattle.ac_sx.proofs.writer.descend.Given as goal

abbrev pub invariant-inner : goal.invariant-inner
invariant-inner l = record {
  same : (l.text.items ++ spelling (tree_of l.inner)) ++ lists_behind (left_of l.lists.items) ≡ (l.fn.text.items ++ spelling (tree_of l.fn.tree)) ++ lists_behind (left_of l.fn.lists.items);
  less : nodes_behind (left_of l.lists.items) + nodes (tree_of l.inner) ≤ nodes_behind (left_of l.fn.lists.items) + nodes (tree_of l.fn.tree);
}

abbrev pub decreases-inner : goal.decreases-inner
decreases-inner l = nodes (tree_of l.inner)
