-- What is made so far, and what is left, are all.
use Rattle.std.proofs.Common.{◌≡◌, ◌++◌, length, map}
use Rattle.monad_lang.specs.CodeProgram.{start_of}
use Rattle.rule_trees.specs.RuleTree.{Trees}
use Rattle.rule_heap.specs.Rule.{Rule}
use Rattle.rule_heap.specs.HeapLifted.{starts_lifted, start_trees}
use Rattle.heap_lift.specs.CodeTrees.{with_trees}
use Rattle.heap_lift.proofs.lists.lifted_starts.Given as goal

abbrev pub invariant-along : goal.invariant-along
invariant-along l = record {
  starts : map start_of l.lifted.items ++ starts_lifted (map start_of l.rest) ≡ starts_lifted (map start_of l.starts);
  trees : (more : Trees Rule) → with_trees l.trees.items (start_trees (map start_of l.rest) more) ≡ start_trees (map start_of l.starts) more;
}

abbrev pub decreases-along : goal.decreases-along
decreases-along l = length l.rest
