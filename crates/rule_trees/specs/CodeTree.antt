-- What the code's trees stand for.
use Rattle.std.specs.Prelude.{List, [], ◌∷◌}
use Rattle.rule_trees.specs.declared.tree.Tree as T
use Rattle.rule_trees.specs.declared.tree.Tree.{Row_of-Tree, end_of-Tree, more_of-Tree}
use Rattle.rule_trees.specs.RuleTree.{Tree, Trees, node, no_trees, tree}

abbrev mutual
  pub tree_of : {R Rule : Type 0} → (R → Rule) → T.Tree R → Tree Rule
  tree_of f (T.Tree' r m ts) = node (f r) (trees_of f ts)

  pub trees_of : {R Rule : Type 0} {m : _} → (R → Rule) → Row_of-Tree R m → Trees Rule
  trees_of f end_of-Tree = no_trees
  trees_of f (more_of-Tree t ts) = tree (tree_of f t) (trees_of f ts)

abbrev pub trees_in : {R Rule : Type 0} → (R → Rule) → List (T.Tree R) → Trees Rule
trees_in f [] = no_trees
trees_in f (t ∷ ts) = tree (tree_of f t) (trees_in f ts)
