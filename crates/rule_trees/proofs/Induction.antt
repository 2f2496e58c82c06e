-- What holds of every accepted claim, by induction on the tree: one case for each rule of the table.
use Rattle.std.proofs.Common.{List, [], ◌∷◌}
use Rattle.rule_trees.specs.RuleTree.{Tree, node, Trees, no_trees, tree, Table, Accepts, AcceptsAll, AllHold, Preserves}

module _ {Rule Claim : Type 0} (table : Table Rule Claim) (P : Claim → Type 1) (preserves : Preserves table P) where
  mutual
    pub holds : (t : Tree Rule) (c : Claim) → Accepts table t c → P c
    holds (node rule trees) c h = preserves rule c h.0 (all_hold trees (table rule c).parts h.1)

    all_hold : (ts : Trees Rule) (cs : List Claim) → AcceptsAll table ts cs → AllHold P cs
    all_hold no_trees [] h = tt
    all_hold (tree t ts) (c ∷ cs) h = (holds t c h.0, all_hold ts cs h.1)
    all_hold _ _ h = absurd h
