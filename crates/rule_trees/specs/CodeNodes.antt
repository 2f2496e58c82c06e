-- How many nodes a tree of rules has.
use Rattle.std.specs.Prelude.{ℕ, suc, ◌+◌}
use Rattle.rule_trees.specs.RuleTree.{Tree, Trees, node, no_trees, tree}

abbrev mutual
  pub nodes : {Rule : Type 0} → Tree Rule → ℕ
  nodes (node r ts) = suc (nodes_in ts)

  pub nodes_in : {Rule : Type 0} → Trees Rule → ℕ
  nodes_in no_trees = 0
  nodes_in (tree t ts) = nodes t + nodes_in ts
