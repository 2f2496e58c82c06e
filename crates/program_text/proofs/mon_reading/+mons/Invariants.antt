-- A part has fewer nodes; the programs so far, and those to come, are the sequence.
use Rattle.std.proofs.Common.{◌≡◌, ◌+◌, ◌*◌, ◌≤◌, length}
use Rattle.ac_sx.specs.Tree.{nodes, all_nodes}
use Rattle.ac_sx.specs.CodeSx.{tree_of, trees_in}
use Rattle.expression_text.specs.Reading.{made}
use Rattle.monad_lang.specs.CodeFront.{with_fronts}
use Rattle.program_text.specs.MonReading.{sequence_at}
use Rattle.program_text.proofs.mon_reading.+mons.Given as goal

abbrev pub decreases-mon_at : goal.decreases-mon_at
decreases-mon_at l = 8 * nodes (tree_of l.tree.now)

abbrev pub decreases-row_at : goal.decreases-row_at
decreases-row_at l = 8 * all_nodes (trees_in l.parts.now) + 4

abbrev pub decreases-if_row : goal.decreases-if_row
decreases-if_row l = 8 * all_nodes (trees_in l.parts.now) + 3

abbrev pub decreases-loop_row : goal.decreases-loop_row
decreases-loop_row l = 8 * all_nodes (trees_in l.parts.now) + 3

abbrev pub decreases-do_row : goal.decreases-do_row
decreases-do_row l = 8 * all_nodes (trees_in l.parts.now) + 3

abbrev pub decreases-sequence_at : goal.decreases-sequence_at
decreases-sequence_at l = 8 * all_nodes (trees_in l.parts.now) + 2

abbrev pub invariant-sequence_at-binds : goal.invariant-sequence_at-binds
invariant-sequence_at-binds l = record {
  same : made (with_fronts l.fronts.items) (sequence_at l.at (trees_in l.rest)) ≡ sequence_at l.fn.at (trees_in l.fn.parts);
  smaller : all_nodes (trees_in l.rest) ≤ all_nodes (trees_in l.fn.parts);
}

abbrev pub decreases-sequence_at-binds : goal.decreases-sequence_at-binds
decreases-sequence_at-binds l = length l.rest
