-- The tree so far, in the second parts that are left, is the whole.
use Rattle.std.proofs.Common.{◌≡◌}
use Rattle.rule_eq.specs.CodeRule.{tree_of}
use Rattle.rule_walks.specs.Walk.{second_trees}
use Rattle.rule_walks.proofs.walks.wrapped.Given as goal

abbrev pub invariant-around : goal.invariant-around
invariant-around l = second_trees l.left (tree_of l.new) ≡ second_trees l.count (tree_of l.fn.tree)

abbrev pub decreases-around : goal.decreases-around
decreases-around l = l.left
