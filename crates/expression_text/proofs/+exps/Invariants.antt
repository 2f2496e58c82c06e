-- A part has fewer nodes.
use Rattle.std.proofs.Common.{◌≡◌, ◌+◌, ◌*◌, drop}
use Rattle.ac_sx.specs.Tree.{nodes, all_nodes}
use Rattle.ac_sx.specs.CodeSx.{tree_of, trees_in}
use Rattle.expression_lang.specs.CodeShapeView.{with_steps}
use Rattle.expression_text.specs.Reading.{made}
use Rattle.expression_text.specs.ExpReading.{steps_at}
use Rattle.expression_text.proofs.+exps.Given as goal

abbrev pub decreases-exp_reading::exp_at : goal.decreases-exp_reading::exp_at
decreases-exp_reading::exp_at l = 8 * nodes (tree_of l.tree.now)

abbrev pub decreases-exp_reading::boxed_exp_at : goal.decreases-exp_reading::boxed_exp_at
decreases-exp_reading::boxed_exp_at l = 8 * nodes (tree_of l.tree.now) + 1

abbrev pub decreases-exp_reading::row_at : goal.decreases-exp_reading::row_at
decreases-exp_reading::row_at l = 8 * all_nodes (trees_in l.parts.now) + 4

abbrev pub decreases-exp_reading::unary_row : goal.decreases-exp_reading::unary_row
decreases-exp_reading::unary_row l = 8 * all_nodes (trees_in l.parts.now) + 3

abbrev pub decreases-exp_reading::sized_row : goal.decreases-exp_reading::sized_row
decreases-exp_reading::sized_row l = 8 * all_nodes (trees_in l.parts.now) + 3

abbrev pub decreases-exp_reading::two_row : goal.decreases-exp_reading::two_row
decreases-exp_reading::two_row l = 8 * all_nodes (trees_in l.parts.now) + 3

abbrev pub decreases-exp_reading::between_row : goal.decreases-exp_reading::between_row
decreases-exp_reading::between_row l = 8 * all_nodes (trees_in l.parts.now) + 3

abbrev pub decreases-exp_reading::if_row : goal.decreases-exp_reading::if_row
decreases-exp_reading::if_row l = 8 * all_nodes (trees_in l.parts.now) + 3

abbrev pub decreases-exp_reading::padd_row : goal.decreases-exp_reading::padd_row
decreases-exp_reading::padd_row l = 8 * all_nodes (trees_in l.parts.now) + 3

abbrev pub decreases-exp_reading::root_row : goal.decreases-exp_reading::root_row
decreases-exp_reading::root_row l = 8 * all_nodes (trees_in l.parts.now) + 3

abbrev pub decreases-exp_reading::place_row : goal.decreases-exp_reading::place_row
decreases-exp_reading::place_row l = 8 * all_nodes (trees_in l.parts.now) + 3

abbrev pub decreases-exp_reading::global_row : goal.decreases-exp_reading::global_row
decreases-exp_reading::global_row l = 8 * all_nodes (trees_in l.parts.now) + 3

abbrev pub decreases-exp_reading::sel_row : goal.decreases-exp_reading::sel_row
decreases-exp_reading::sel_row l = 8 * all_nodes (trees_in l.parts.now) + 3

abbrev pub decreases-exp_reading::upd_row : goal.decreases-exp_reading::upd_row
decreases-exp_reading::upd_row l = 8 * all_nodes (trees_in l.parts.now) + 3

abbrev pub decreases-path_reading::path_at : goal.decreases-path_reading::path_at
decreases-path_reading::path_at l = 8 * nodes (tree_of l.tree.now)

abbrev pub decreases-path_reading::steps_at : goal.decreases-path_reading::steps_at
decreases-path_reading::steps_at l = 8 * all_nodes (trees_in l.steps.now) + 2

abbrev pub decreases-path_reading::step_at : goal.decreases-path_reading::step_at
decreases-path_reading::step_at l = 8 * nodes (tree_of l.tree.now)

abbrev pub decreases-path_reading::element_step : goal.decreases-path_reading::element_step
decreases-path_reading::element_step l = 8 * all_nodes (trees_in l.parts.now) + 3

-- the steps so far, and those to come, are the path
abbrev pub invariant-path_reading::steps_at-steps : goal.invariant-path_reading::steps_at-steps
invariant-path_reading::steps_at-steps l = made (with_steps l.fronts.items) (steps_at l.at (trees_in (drop l.step-index l.steps))) ≡ steps_at l.fn.at (trees_in l.fn.steps)
