-- Ways down a tree of rules: at each node the position of the part that is gone to. Nodes are numbered in preorder from 0.
use Rattle.std.specs.Prelude.{ℕ, zero, suc, ◌+◌, List, [], ◌∷◌, Option, Some, None}
use Rattle.std.specs.Option.{option_map}
use Rattle.rule_trees.specs.RuleTree.{Tree, Trees, node, no_trees, tree}
use Rattle.rule_trees.specs.CodeNodes.{nodes}

abbrev mutual
  -- the number of the node at the end of a way; none where no part is at one of its positions
  pub number_at : {Rule : Type 0} → Tree Rule → List ℕ → Option ℕ
  number_at (node r ts) [] = Some 0
  number_at (node r ts) (i ∷ way) = option_map suc (number_in ts i way)

  -- the same, counted from the first of parts
  pub number_in : {Rule : Type 0} → Trees Rule → ℕ → List ℕ → Option ℕ
  number_in no_trees i way = None
  number_in (tree t ts) zero way = number_at t way
  number_in (tree t ts) (suc i) way = option_map (λ n. nodes t + n) (number_in ts i way)
