-- What a checker finds at a node of any number of parts, and how many nodes it has.
use Rattle.std.proofs.Common.{◌≡◌, ℕ, suc, List, [], ◌∷◌, inl, Result, length, refl, sym, subst, ap, ◌∙◌}
use Rattle.rule_trees.specs.declared.tree.Tree as T
use Rattle.rule_trees.specs.declared.tree.Tree.{out-Tree}
use Rattle.rule_trees.specs.RuleTree.{Tree, node, count, Table, Row, next, IsInstance, Checked, AllChecked}
use Rattle.rule_trees.specs.CodeTree.{tree_of, trees_in}
use Rattle.rule_trees.proofs.Parts.{tree_parts}
use Rattle.rule_trees.specs.CodeNodes.{nodes, nodes_in}

module _ {R Rule Claim : Type 0} (table : Table Rule Claim) (f : R → Rule) where
  -- the row of a node
  abbrev row_at : T.Tree R → Claim → Row Claim
  row_at t c = table (f (out-Tree R t).rule) c

  counted : (ts : List (T.Tree R)) → count (trees_in f ts) ≡ length ts
  counted [] = refl
  counted (t ∷ ts) = ap suc (counted ts)

  -- what is checked of a node, by its rule and the list of its parts
  by_parts : (t : T.Tree R) (c : Claim) (at : ℕ) (r : Result ℕ ℕ) → Checked table (node (f (out-Tree R t).rule) (trees_in f (out-Tree R t).parts.items)) c at r → Checked table (tree_of f t) c at r
  by_parts t c at r h = subst (λ u. Checked table u c at r) (sym (tree_parts f t)) h

  instance_at : (t : T.Tree R) (c : Claim) (cs : List Claim) (ts : List (T.Tree R)) → (row_at t c).holds → (row_at t c).parts ≡ cs → (out-Tree R t).parts.items ≡ ts → length ts ≡ length cs →
      IsInstance (row_at t c) (trees_in f (out-Tree R t).parts.items)
  instance_at t c cs ts holds parts items same = record {
    holds = holds;
    parts = counted (out-Tree R t).parts.items ∙ ap length items ∙ same ∙ sym (ap length parts);
  }

  -- the parts decide, one after the other
  pub all_by_parts : (t : T.Tree R) (c : Claim) (cs : List Claim) (ts : List (T.Tree R)) (at : ℕ) (r : Result ℕ ℕ) → (row_at t c).holds → (row_at t c).parts ≡ cs → (out-Tree R t).parts.items ≡ ts → length ts ≡ length cs →
      AllChecked table (trees_in f ts) cs (next at) r → Checked table (tree_of f t) c at r
  all_by_parts t c cs ts at r holds parts items same h =
      by_parts t c at r (inl (instance_at t c cs ts holds parts items same, subst (λ ps. AllChecked table (trees_in f ps) (row_at t c).parts (next at) r) (sym items) (subst (λ ps. AllChecked table (trees_in f ts) ps (next at) r) (sym parts) h)))

  -- a node, and those of its parts
  pub node_count : (t : T.Tree R) → nodes (tree_of f t) ≡ suc (nodes_in (trees_in f (out-Tree R t).parts.items))
  node_count t = ap nodes (tree_parts f t)
