-- Where the code comes on the way to a node, part by part of what a step takes.
use Rattle.std.specs.Prelude.{◌≡◌, ◌≤◌, ℕ, zero, suc, List, [], ◌∷◌, Option, Some, None}
use Rattle.rule_trees.specs.RuleTree.{Tree, Trees, node, no_trees, tree}
use Rattle.rule_trees.specs.CodeNodes.{nodes}
use Rattle.refused_parts.specs.Ways.{number_at}

-- by where it goes on from a node's rule and part to the tree at a position
module _ {Rule Part : Type 0} (inside : Rule → Part → ℕ → Option Part) where
  abbrev mutual
    pub walked : Tree Rule → Part → List ℕ → Part
    walked (node rule ts) p [] = p
    walked (node rule ts) p (i ∷ way) = walked_in ts p (inside rule p i) i way

    pub walked_in : Trees Rule → Part → Option Part → ℕ → List ℕ → Part
    walked_in no_trees p o i way = p
    walked_in (tree t ts) p None i way = p
    walked_in (tree t ts) p (Some q) zero way = walked t q way
    walked_in (tree t ts) p (Some q) (suc i) way = walked_in ts p (Some q) i way

  -- what is found at a number: it is where a way with that number leads, or there is no such node
  abbrev pub IsFound : Tree Rule → Part → ℕ → Option Part → Type 0
  IsFound t p n None = nodes t ≤ n
  IsFound t p n (Some q) = (way : List ℕ) × (number_at t way ≡ Some n) × (q ≡ walked t p way)
