-- What is left is no deeper than what was to be dropped.
use Rattle.std.proofs.Common.{◌≤◌}
use Rattle.rule_trees.specs.declared.tree.Tree.{size-Tree}
use Rattle.rule_trees.proofs.tree.Tree.+drop.Given as goal

abbrev pub invariant-loop-last : goal.invariant-loop-last
invariant-loop-last g l = size-Tree g.row.R.Denot l.self ≤ size-Tree g.row.R.Denot l.fn.self
