-- What is made so far, and what is left, are all.
use Rattle.std.proofs.Common.{◌≡◌, ◌++◌, length, map}
use Rattle.expression_lang.specs.CodeExpression.{exp_of}
use Rattle.rule_trees.specs.RuleTree.{Trees}
use Rattle.rule_heap.specs.Rule.{Rule}
use Rattle.rule_heap.specs.HeapLifted.{exps_lifted, exp_trees}
use Rattle.heap_lift.specs.CodeTrees.{with_trees}
use Rattle.heap_lift.proofs.lists.lifted_exps.Given as goal

abbrev pub invariant-along : goal.invariant-along
invariant-along l = record {
  exps : map exp_of l.lifted.items ++ exps_lifted (map exp_of l.rest) ≡ exps_lifted (map exp_of l.exps);
  trees : (more : Trees Rule) → with_trees l.trees.items (exp_trees (map exp_of l.rest) more) ≡ exp_trees (map exp_of l.exps) more;
}

abbrev pub decreases-along : goal.decreases-along
decreases-along l = length l.rest
