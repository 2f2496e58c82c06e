-- What the nodes of a tree of rules are about: each is checked for a claim, and is about the left side of that claim. Nodes are numbered in preorder
-- from 0.
use Rattle.std.specs.Prelude.{◌≡◌, ℕ, zero, suc, ◌+◌, List, ◌∷◌, Option, unwrap_or, ◌⊎◌}
use Rattle.rule_trees.specs.RuleTree.{Tree, Trees, node, tree, Table, IsInstance}
use Rattle.rule_trees.specs.CodeNodes.{nodes}

-- by the left sides of claims; some claims have none, as those on expressions have no program
module _ {Rule Claim Part : Type 0} (table : Table Rule Claim) (left : Claim → Option Part) where
  abbrev mutual
    -- The tree is checked for a claim, and its root is about a part. The node with this number is about the left side of its own claim; where that has
    -- none, it is about what the node above it is about. All nodes above it are instances of their rules.
    pub IsAbout : Tree Rule → Claim → Part → ℕ → Part → Type 0
    IsAbout (node rule ts) c p zero q = q ≡ p
    IsAbout (node rule ts) c p (suc n) q = IsInstance (table rule c) ts × IsAboutIn ts (table rule c).parts p n q

    -- the same of trees for several claims, below a node that is about a part
    pub IsAboutIn : Trees Rule → List Claim → Part → ℕ → Part → Type 0
    IsAboutIn (tree t ts) (c ∷ cs) p n q =
        IsAbout t c (unwrap_or (left c) p) n q ⊎ ((k : ℕ) × (n ≡ nodes t + k) × IsAboutIn ts cs p k q)
    IsAboutIn _ _ p n q = ⊥
