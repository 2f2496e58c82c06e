-- A part has fewer nodes.
use Rattle.std.proofs.Common.{◌+◌, ◌*◌}
use Rattle.ac_sx.specs.Tree.{nodes, all_nodes}
use Rattle.ac_sx.specs.CodeSx.{tree_of, trees_in}
use Rattle.triple_text.proofs.deriv_reading.+derivs.Given as goal

abbrev pub decreases-deriv_at : goal.decreases-deriv_at
decreases-deriv_at l = 8 * nodes (tree_of l.tree.now)

abbrev pub decreases-row_at : goal.decreases-row_at
decreases-row_at l = 8 * all_nodes (trees_in l.parts.now) + 4

abbrev pub decreases-bind_row : goal.decreases-bind_row
decreases-bind_row l = 8 * all_nodes (trees_in l.parts.now) + 3

abbrev pub decreases-if_row : goal.decreases-if_row
decreases-if_row l = 8 * all_nodes (trees_in l.parts.now) + 3

abbrev pub decreases-loop_row : goal.decreases-loop_row
decreases-loop_row l = 8 * all_nodes (trees_in l.parts.now) + 3
