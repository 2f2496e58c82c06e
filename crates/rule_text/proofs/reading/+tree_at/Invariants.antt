-- The parts so far, and those to come, are the node's.
use Rattle.std.proofs.Common.{◌≡◌, ◌≤◌}
use Rattle.ac_sx.specs.Tree.{nodes, all_nodes}
use Rattle.ac_sx.specs.CodeSx.{tree_of, trees_in}
use Rattle.expression_text.specs.Reading.{made}
use Rattle.rule_trees.specs.CodeTree as code
use Rattle.rule_text.specs.RuleReading.{trees_at}
use Rattle.rule_text.specs.CodeReading.{with_trees}
use Rattle.rule_text.proofs.reading.+tree_at.Given as goal

abbrev pub decreases-tree_at : goal.decreases-tree_at
decreases-tree_at g l = nodes (tree_of l.tree.now)

abbrev pub invariant-parts : goal.invariant-parts
invariant-parts g l = record {
  same : made (with_trees (code.trees_in g.R.RuleReading.plain_of l.parts.items)) (trees_at g.R.RuleReading.words l.here (trees_in l.rest)) ≡ trees_at g.R.RuleReading.words l.initial.here (trees_in l.initial.rest);
  smaller : all_nodes (trees_in l.rest) ≤ all_nodes (trees_in l.initial.rest);
}

abbrev pub decreases-parts : goal.decreases-parts
decreases-parts g l = all_nodes (trees_in l.rest)
