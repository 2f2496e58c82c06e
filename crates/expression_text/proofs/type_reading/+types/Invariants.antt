-- A part has fewer nodes.
use Rattle.std.proofs.Common.{◌+◌, ◌*◌}
use Rattle.ac_sx.specs.Tree.{nodes, all_nodes}
use Rattle.ac_sx.specs.CodeSx.{tree_of, trees_in}
use Rattle.expression_text.proofs.type_reading.+types.Given as goal

abbrev pub decreases-type_at : goal.decreases-type_at
decreases-type_at l = 4 * nodes (tree_of l.tree.now)

abbrev pub decreases-boxed_type_at : goal.decreases-boxed_type_at
decreases-boxed_type_at l = 4 * nodes (tree_of l.tree.now) + 1

abbrev pub decreases-ptr_type_at : goal.decreases-ptr_type_at
decreases-ptr_type_at l = 4 * all_nodes (trees_in l.parts.now) + 2

abbrev pub decreases-array_type_at : goal.decreases-array_type_at
decreases-array_type_at l = 4 * all_nodes (trees_in l.parts.now) + 2

abbrev pub decreases-built_type_at : goal.decreases-built_type_at
decreases-built_type_at l = 4 * all_nodes (trees_in l.parts.now) + 3
