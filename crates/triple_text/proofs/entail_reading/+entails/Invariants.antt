-- A part has fewer nodes.
use Rattle.std.proofs.Common.{◌+◌, ◌*◌}
use Rattle.ac_sx.specs.Tree.{nodes, all_nodes}
use Rattle.ac_sx.specs.CodeSx.{tree_of, trees_in}
use Rattle.triple_text.proofs.entail_reading.+entails.Given as goal

abbrev pub decreases-entail_at : goal.decreases-entail_at
decreases-entail_at l = 8 * nodes (tree_of l.tree.now)

abbrev pub decreases-row_at : goal.decreases-row_at
decreases-row_at l = 8 * all_nodes (trees_in l.parts.now) + 4

abbrev pub decreases-one_row : goal.decreases-one_row
decreases-one_row l = 8 * all_nodes (trees_in l.parts.now) + 3

abbrev pub decreases-two_row : goal.decreases-two_row
decreases-two_row l = 8 * all_nodes (trees_in l.parts.now) + 3

abbrev pub decreases-split_row : goal.decreases-split_row
decreases-split_row l = 8 * all_nodes (trees_in l.parts.now) + 3

abbrev pub decreases-rewrite_row : goal.decreases-rewrite_row
decreases-rewrite_row l = 8 * all_nodes (trees_in l.parts.now) + 3

abbrev pub decreases-step_row : goal.decreases-step_row
decreases-step_row l = 8 * all_nodes (trees_in l.parts.now) + 3
