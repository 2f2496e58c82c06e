-- No tree is lost and none is made.
use Rattle.std.proofs.Common.{◌+◌, ◌≤◌}
use Rattle.ac_sx.specs.Tree.{nodes, all_nodes}
use Rattle.ac_sx.specs.CodeSx.{tree_of, trees_in}
use Rattle.ac_sx.proofs.sx.Sx.without_leaf.Given as goal

abbrev pub invariant-inner : goal.invariant-inner
invariant-inner l = nodes (tree_of l.self) + all_nodes (trees_in l.around.items) ≤ nodes (tree_of l.fn.self) + all_nodes (trees_in l.fn.parts.items)

abbrev pub decreases-inner : goal.decreases-inner
decreases-inner l = nodes (tree_of l.self)
