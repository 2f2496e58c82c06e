-- What is left to check decides: its answer is that of the whole.
use Rattle.std.proofs.Common.{◌≡◌, ◌≤◌, ℕ, true, ◌+◌, ◌*◌, map, length, Result}
use Rattle.expression_lang.specs.CodeExpression.{exp_of, kind_of}
use Rattle.ac_expr.specs.Passed.{passed}
use Rattle.monad_lang.specs.CodeProgram.{mon_of}
use Rattle.program_facts.specs.Flow.{parts}
use Rattle.rule_trees.specs.RuleTree.{Checked, AllChecked}
use Rattle.rule_trees.specs.CodeTree.{trees_in}
use Rattle.rule_trees.specs.CodeNodes.{nodes, nodes_in}
use Rattle.rule_word.specs.declared.rule.View as V
use Rattle.rule_word.specs.Rule.{expression, program}
use Rattle.rule_word.specs.Scopes.{own}
use Rattle.rule_word.specs.CodeFits.{ClaimFits, FitInTurn}
use Rattle.rule_word.specs.CodeNames.{with_passed, are_binders}
use Rattle.rule_word.specs.CodePassed.{conjuncts, sequence}
use Rattle.rule_word.specs.CodeClaims.{is_and}
use Rattle.rule_word.specs.CodeRule.{rule_of, rule_at, tree_of, context_in, table_at}
use Rattle.rule_word.specs.CodeKinds.{point_in, scope_at}
use Rattle.rule_word.specs.CodeParts.{pairs_at, thens_at}
use Rattle.rule_word.specs.CodeRows.{FitsAt, claim_at}
use Rattle.rule_word.specs.CodeFront.{AreReadyAt}
use Rattle.rule_word.specs.CodeStretch.{IsKept}
use Rattle.rule_word.proofs.Sequences.{FactsLeft, NamesLeft}
use Rattle.rule_word.proofs.SteppedOn.{Stands}
use Rattle.rule_word.proofs.Walked.{parts_at}
use Rattle.rule_word.proofs.Paired.{IsWalked}
use Rattle.rule_word.proofs.kernel.+checking.Given as goal

abbrev pub invariant-checked_exp-down : goal.invariant-checked_exp-down
invariant-checked_exp-down l = record {
  decides : (r : Result ℕ ℕ) →
      Checked (table_at l.context) (tree_of l.tree) (claim_at l.context l.point (exp_of l.left) l.view (exp_of l.right)) l.at r →
      Checked (table_at l.context) (tree_of l.initial.tree) (claim_at l.context l.point (exp_of l.initial.left) l.initial.view (exp_of l.initial.right)) l.initial.at r;
  fits : FitsAt l.context l.point (exp_of l.left) l.view;
  smaller : nodes (tree_of l.tree) ≤ nodes (tree_of l.initial.tree);
}

abbrev pub decreases-checked_exp-down : goal.decreases-checked_exp-down
decreases-checked_exp-down l = nodes (tree_of l.tree)

abbrev pub invariant-checked_pairs-pairs : goal.invariant-checked_pairs-pairs
invariant-checked_pairs-pairs l = record {
  walk : IsWalked l.context l.parts (pairs_at (context_in l.context) (point_in l.point) l.initial.left l.initial.views l.initial.right) l.initial.at l.rest
      (pairs_at (context_in l.context) (point_in l.point) l.left l.views l.right) l.at;
  ready : AreReadyAt l.context l.point l.left l.views l.right;
}

abbrev pub decreases-checked_pairs-pairs : goal.decreases-checked_pairs-pairs
decreases-checked_pairs-pairs l = length l.rest

abbrev pub invariant-checked_ands-along : goal.invariant-checked_ands-along
invariant-checked_ands-along l = record {
  decides : (r : Result ℕ ℕ) →
      Checked (table_at l.context) (tree_of l.tree)
      (expression (record { facts = passed l.count (sequence l.head) (point_in l.point).facts; names = (point_in l.point).names }) (exp_of l.left) (own (scope_at l.context l.point) (exp_of l.left)) (exp_of l.right)) l.at r →
      Checked (table_at l.context) (tree_of l.initial.tree) (claim_at l.context l.point (exp_of l.initial.left) V.TheVariants.AsIs (exp_of l.initial.right)) l.initial.at r;
  ands : is_and (rule_at l.tree) (exp_of l.left) (exp_of l.right) ≡ true;
  fits : FitsAt l.context l.point (exp_of l.left) V.TheVariants.AsIs;
  facts : FactsLeft (conjuncts (exp_of l.right)) l.count (sequence l.head);
  smaller : nodes (tree_of l.tree) ≤ nodes (tree_of l.initial.tree);
}

abbrev pub decreases-checked_ands-along : goal.decreases-checked_ands-along
decreases-checked_ands-along l = nodes (tree_of l.tree)

abbrev pub invariant-checked_then-claims : goal.invariant-checked_then-claims
invariant-checked_then-claims l = record {
  decides : (r : Result ℕ ℕ) →
      AllChecked (table_at l.context) (trees_in rule_of l.rest) (thens_at (context_in l.context) (point_in l.point) l.then) l.at r →
      AllChecked (table_at l.context) (trees_in rule_of l.initial.rest) (thens_at (context_in l.context) (point_in l.point) l.initial.then) l.initial.at r;
  fit : FitInTurn (context_in l.context) (thens_at (context_in l.context) (point_in l.point) l.then);
  count : length l.rest ≡ length (thens_at (context_in l.context) (point_in l.point) l.then);
  smaller : nodes_in (trees_in rule_of l.rest) ≤ nodes_in (trees_in rule_of l.parts);
}

abbrev pub decreases-checked_then-claims : goal.decreases-checked_then-claims
decreases-checked_then-claims l = length l.rest

abbrev pub invariant-checked-along : goal.invariant-checked-along
invariant-checked-along l = record {
  decides : (r : Result ℕ ℕ) →
      Checked (table_at l.context) (tree_of l.tree)
      (program (record { facts = passed l.count (sequence l.head) (point_in l.point).facts; names = with_passed l.count (tree_of l.initial.tree) (mon_of l.initial.left) (point_in l.point).names })
      (mon_of l.left) (mon_of l.right) (map kind_of l.kinds)) l.at r →
      Checked (table_at l.context) (tree_of l.initial.tree) (program (point_in l.point) (mon_of l.initial.left) (mon_of l.initial.right) (map kind_of l.kinds)) l.initial.at r;
  fits : ClaimFits (context_in l.context)
      (program (record { facts = passed l.count (sequence l.head) (point_in l.point).facts; names = with_passed l.count (tree_of l.initial.tree) (mon_of l.initial.left) (point_in l.point).names })
      (mon_of l.left) (mon_of l.right) (map kind_of l.kinds));
  kinds : are_binders (with_passed l.count (tree_of l.initial.tree) (mon_of l.initial.left) (point_in l.point).names) ≡ true;
  facts : FactsLeft (parts (mon_of l.right)) l.count (sequence l.head);
  names : NamesLeft (tree_of l.tree) (mon_of l.left) l.count (tree_of l.initial.tree) (mon_of l.initial.left);
  kept : IsKept l.stretch;
  stands : Stands l.stretch l.count (tree_of l.initial.tree) (mon_of l.initial.left);
  smaller : nodes (tree_of l.tree) ≤ nodes (tree_of l.initial.tree);
}

abbrev pub decreases-checked-along : goal.decreases-checked-along
decreases-checked-along l = nodes (tree_of l.tree)

abbrev pub decreases-checked_exp : goal.decreases-checked_exp
decreases-checked_exp l = 8 * nodes (tree_of l.tree.now) + 2

abbrev pub decreases-checked_ands : goal.decreases-checked_ands
decreases-checked_ands l = 8 * nodes (tree_of l.tree.now) + 1

abbrev pub decreases-checked_pairs : goal.decreases-checked_pairs
decreases-checked_pairs l = 8 * nodes_in (trees_in rule_of l.parts.now) + 6

abbrev pub decreases-checked_then : goal.decreases-checked_then
decreases-checked_then l = 8 * nodes_in (trees_in rule_of l.parts.now) + 6

abbrev pub decreases-checked_under : goal.decreases-checked_under
decreases-checked_under l = 8 * nodes (tree_of l.tree.now) + 5

abbrev pub decreases-checked_where : goal.decreases-checked_where
decreases-checked_where l = 8 * nodes (tree_of l.tree.now) + 4

abbrev pub decreases-checked_here : goal.decreases-checked_here
decreases-checked_here l = 8 * nodes (tree_of l.tree.now) + 3

abbrev pub decreases-checked : goal.decreases-checked
decreases-checked l = 8 * nodes (tree_of l.tree.now) + 2

abbrev pub decreases-checked_last : goal.decreases-checked_last
decreases-checked_last l = 8 * nodes (tree_of l.tree.now) + 1

abbrev pub decreases-checked_flat : goal.decreases-checked_flat
decreases-checked_flat l = 8 * nodes (tree_of l.tree.now)

abbrev pub decreases-checked_front : goal.decreases-checked_front
decreases-checked_front l = 8 * nodes_in (trees_in rule_of (parts_at l.tree.now)) + 7

abbrev pub decreases-checked_recast : goal.decreases-checked_recast
decreases-checked_recast l = 8 * nodes (tree_of l.tree.now)

abbrev pub decreases-checked_inside : goal.decreases-checked_inside
decreases-checked_inside l = 8 * nodes_in (trees_in rule_of l.parts.now) + 7
