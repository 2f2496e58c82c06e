-- What is left to check decides: its answer is that of the whole.
use Rattle.std.proofs.Common.{◌≡◌, ◌≤◌, ℕ, ◌+◌, ◌*◌, ◌++◌, length, Result}
use Rattle.ac_expr.specs.Passed.{passed}
use Rattle.monad_lang.specs.CodeProgram.{mon_of}
use Rattle.program_facts.specs.Flow.{parts}
use Rattle.program_facts.specs.CodeParts.{sequence}
use Rattle.rule_trees.specs.RuleTree.{Checked, AllChecked}
use Rattle.rule_trees.specs.CodeTree.{trees_in}
use Rattle.rule_trees.specs.CodeNodes.{nodes, nodes_in}
use Rattle.rule_heap.specs.Rule.{OfProgram}
use Rattle.rule_heap.specs.Table.{each}
use Rattle.rule_heap.specs.CodeParts.{then_in, rest_of}
use Rattle.rule_parts.specs.CodeExps.{exps_in}
use Rattle.rule_heap.specs.CodeRule.{rule_of, tree_of, facts_at, table_at}
use Rattle.rule_heap.proofs.kernel.+checking.Given as goal

abbrev pub invariant-checked-along : goal.invariant-checked-along
invariant-checked-along l = record {
  decides : (r : Result ℕ ℕ) →
      Checked (table_at l.context) (tree_of l.tree) (OfProgram (passed l.count (sequence l.head) (facts_at l.context)) (mon_of l.left) (mon_of l.right)) l.at r →
      Checked (table_at l.context) (tree_of l.initial.tree) (OfProgram (facts_at l.context) (mon_of l.initial.left) (mon_of l.initial.right)) l.initial.at r;
  left_over : parts (mon_of l.right) ≡ rest_of l.count (sequence l.head);
  smaller : nodes (tree_of l.tree) ≤ nodes (tree_of l.initial.tree);
}

abbrev pub decreases-checked-along : goal.decreases-checked-along
decreases-checked-along l = nodes (tree_of l.tree)

abbrev pub invariant-checked_parts-pairs : goal.invariant-checked_parts-pairs
invariant-checked_parts-pairs l = record {
  decides : (r : Result ℕ ℕ) →
      AllChecked (table_at l.context) (trees_in rule_of l.rest) (each (facts_at l.context) (exps_in l.left) (exps_in l.right) ++ then_in (facts_at l.context) l.then) l.at r →
      AllChecked (table_at l.context) (trees_in rule_of l.initial.rest) (each (facts_at l.context) (exps_in l.initial.left) (exps_in l.initial.right) ++ then_in (facts_at l.context) l.then) l.initial.at r;
  same : length l.rest ≡ length (each (facts_at l.context) (exps_in l.left) (exps_in l.right) ++ then_in (facts_at l.context) l.then);
  smaller : nodes_in (trees_in rule_of l.rest) ≤ nodes_in (trees_in rule_of l.initial.rest);
}

abbrev pub decreases-checked_parts-pairs : goal.decreases-checked_parts-pairs
decreases-checked_parts-pairs l = length l.rest

abbrev pub invariant-checked_then-claims : goal.invariant-checked_then-claims
invariant-checked_then-claims l = record {
  decides : (r : Result ℕ ℕ) →
      AllChecked (table_at l.context) (trees_in rule_of l.rest) (then_in (facts_at l.context) l.then) l.at r →
      AllChecked (table_at l.context) (trees_in rule_of l.initial.rest) (then_in (facts_at l.context) l.initial.then) l.initial.at r;
  same : length l.rest ≡ length (then_in (facts_at l.context) l.then);
  smaller : nodes_in (trees_in rule_of l.rest) ≤ nodes_in (trees_in rule_of l.initial.rest);
}

abbrev pub decreases-checked_then-claims : goal.decreases-checked_then-claims
decreases-checked_then-claims l = length l.rest

abbrev pub decreases-checked : goal.decreases-checked
decreases-checked l = 8 * nodes (tree_of l.tree.now) + 2

abbrev pub decreases-checked_exp : goal.decreases-checked_exp
decreases-checked_exp l = 8 * nodes (tree_of l.tree.now) + 2

abbrev pub decreases-checked_flat : goal.decreases-checked_flat
decreases-checked_flat l = 8 * nodes (tree_of l.tree.now) + 1

abbrev pub decreases-checked_step : goal.decreases-checked_step
decreases-checked_step l = 8 * nodes (tree_of l.tree.now) + 3

abbrev pub decreases-checked_here : goal.decreases-checked_here
decreases-checked_here l = 8 * nodes (tree_of l.tree.now) + 3

abbrev pub decreases-checked_under : goal.decreases-checked_under
decreases-checked_under l = 8 * nodes (tree_of l.tree.now) + 4

abbrev pub decreases-checked_then : goal.decreases-checked_then
decreases-checked_then l = 8 * nodes_in (trees_in rule_of l.parts.now) + 5

abbrev pub decreases-checked_parts : goal.decreases-checked_parts
decreases-checked_parts l = 8 * nodes_in (trees_in rule_of l.parts.now) + 6
