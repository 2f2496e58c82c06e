-- A part has fewer nodes; the commands so far, and those to come, are the sequence.
use Rattle.std.proofs.Common.{◌≡◌, ◌+◌, ◌*◌, ◌≤◌, length}
use Rattle.ac_sx.specs.Tree.{nodes, all_nodes}
use Rattle.ac_sx.specs.CodeSx.{tree_of, trees_in}
use Rattle.expression_text.specs.Reading.{made}
use Rattle.simpl_lang.specs.CodeFront.{with_fronts}
use Rattle.command_text.specs.CommandReading.{sequence_at}
use Rattle.command_text.proofs.command_reading.+commands.Given as goal

abbrev pub decreases-command_at : goal.decreases-command_at
decreases-command_at l = 8 * nodes (tree_of l.tree.now)

abbrev pub decreases-row_at : goal.decreases-row_at
decreases-row_at l = 8 * all_nodes (trees_in l.parts.now) + 4

abbrev pub decreases-cond_row : goal.decreases-cond_row
decreases-cond_row l = 8 * all_nodes (trees_in l.parts.now) + 3

abbrev pub decreases-guard_row : goal.decreases-guard_row
decreases-guard_row l = 8 * all_nodes (trees_in l.parts.now) + 3

abbrev pub decreases-catch_row : goal.decreases-catch_row
decreases-catch_row l = 8 * all_nodes (trees_in l.parts.now) + 3

abbrev pub decreases-while_row : goal.decreases-while_row
decreases-while_row l = 8 * all_nodes (trees_in l.parts.now) + 3

abbrev pub decreases-seq_row : goal.decreases-seq_row
decreases-seq_row l = 8 * all_nodes (trees_in l.parts.now) + 3

abbrev pub decreases-sequence_at : goal.decreases-sequence_at
decreases-sequence_at l = 8 * all_nodes (trees_in l.parts.now) + 2

abbrev pub invariant-sequence_at-fronts : goal.invariant-sequence_at-fronts
invariant-sequence_at-fronts l = record {
  same : made (with_fronts l.fronts.items) (sequence_at l.at (trees_in l.rest)) ≡ sequence_at l.fn.at (trees_in l.fn.parts);
  smaller : all_nodes (trees_in l.rest) ≤ all_nodes (trees_in l.fn.parts);
}

abbrev pub decreases-sequence_at-fronts : goal.decreases-sequence_at-fronts
decreases-sequence_at-fronts l = length l.rest
