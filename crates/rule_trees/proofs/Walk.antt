-- What a checker finds at a node, for any table: the node is no instance, or it is one and the parts decide.
use Rattle.std.proofs.Common.{◌≡◌, ℕ, suc, List, [], ◌∷◌, inl, inr, Result, Ok, Err, length, refl, sym, subst, ap, ◌∙◌}
use Rattle.rule_trees.specs.declared.tree.Tree as T
use Rattle.rule_trees.specs.declared.tree.Tree.{out-Tree}
use Rattle.rule_trees.specs.RuleTree.{Tree, node, count, Table, Row, next, IsInstance, Checked, AllChecked}
use Rattle.rule_trees.specs.CodeTree.{tree_of, trees_in}
use Rattle.rule_trees.proofs.Parts.{tree_parts}

module _ {R Rule Claim : Type 0} (table : Table Rule Claim) (f : R → Rule) where
  -- the row of a node
  abbrev row_at : T.Tree R → Claim → Row Claim
  row_at t c = table (f (out-Tree R t).rule) c

  counted : (ts : List (T.Tree R)) → count (trees_in f ts) ≡ length ts
  counted [] = refl
  counted (t ∷ ts) = ap suc (counted ts)

  -- what is checked of a node, by its rule and the list of its parts
  by_parts : (t : T.Tree R) (c : Claim) (at : ℕ) (r : Result ℕ ℕ) → Checked table (node (f (out-Tree R t).rule) (trees_in f (out-Tree R t).parts.items)) c at r → Checked table (tree_of f t) c at r
  by_parts t c at r h = subst (λ u. Checked table u c at r) (sym (tree_parts f t)) h

  instance_at : (t : T.Tree R) (c : Claim) (cs : List Claim) (ts : List (T.Tree R)) → (row_at t c).holds → (row_at t c).parts ≡ cs → (out-Tree R t).parts.items ≡ ts → length ts ≡ length cs →
      IsInstance (row_at t c) (trees_in f (out-Tree R t).parts.items)
  instance_at t c cs ts holds parts items same = record {
    holds = holds;
    parts = counted (out-Tree R t).parts.items ∙ ap length items ∙ same ∙ sym (ap length parts);
  }

  pub no_instance : (t : T.Tree R) (c : Claim) (at : ℕ) → ((row_at t c).holds → ⊥) → Checked table (tree_of f t) c at (Err at)
  no_instance t c at fails = by_parts t c at (Err at) (inr ((λ i. fails i.holds), refl))

  pub wrong_parts : (t : T.Tree R) (c : Claim) (cs : List Claim) (at : ℕ) → (row_at t c).parts ≡ cs → (length (out-Tree R t).parts.items ≡ length cs → ⊥) → Checked table (tree_of f t) c at (Err at)
  wrong_parts t c cs at parts differ = by_parts t c at (Err at) (inr ((λ i. differ (sym (counted (out-Tree R t).parts.items) ∙ i.parts ∙ ap length parts)), refl))

  all_by_parts : (t : T.Tree R) (c : Claim) (cs : List Claim) (ts : List (T.Tree R)) (at : ℕ) (r : Result ℕ ℕ) → (row_at t c).holds → (row_at t c).parts ≡ cs → (out-Tree R t).parts.items ≡ ts → length ts ≡ length cs →
      AllChecked table (trees_in f ts) cs (next at) r → Checked table (tree_of f t) c at r
  all_by_parts t c cs ts at r holds parts items same h =
      by_parts t c at r (inl (instance_at t c cs ts holds parts items same, subst (λ ps. AllChecked table (trees_in f ps) (row_at t c).parts (next at) r) (sym items) (subst (λ ps. AllChecked table (trees_in f ts) ps (next at) r) (sym parts) h)))

  pub no_parts : (t : T.Tree R) (c : Claim) (at : ℕ) → (row_at t c).holds → (row_at t c).parts ≡ [] → (out-Tree R t).parts.items ≡ [] → Checked table (tree_of f t) c at (Ok (next at))
  no_parts t c at holds parts items = all_by_parts t c [] [] at (Ok (next at)) holds parts items refl refl

  alone : (u : T.Tree R) (d : Claim) (at : ℕ) (r : Result ℕ ℕ) → Checked table (tree_of f u) d at r → AllChecked table (trees_in f (u ∷ [])) (d ∷ []) at r
  alone u d at (Ok n) h = inl (n, h, refl)
  alone u d at (Err n) h = inr (n, h, refl)

  -- the only part decides
  pub one_part : (t : T.Tree R) (c d : Claim) (u : T.Tree R) (at : ℕ) → (row_at t c).holds → (row_at t c).parts ≡ d ∷ [] → (out-Tree R t).parts.items ≡ u ∷ [] →
      (r : Result ℕ ℕ) → Checked table (tree_of f u) d (next at) r → Checked table (tree_of f t) c at r
  one_part t c d u at holds parts items r h = all_by_parts t c (d ∷ []) (u ∷ []) at r holds parts items refl (alone u d (next at) r h)

  -- the last of two parts decides where the first has no bad node
  pub two_parts : (t : T.Tree R) (c d e : Claim) (u v : T.Tree R) (at n : ℕ) → (row_at t c).holds → (row_at t c).parts ≡ d ∷ e ∷ [] → (out-Tree R t).parts.items ≡ u ∷ v ∷ [] →
      Checked table (tree_of f u) d (next at) (Ok n) → (r : Result ℕ ℕ) → Checked table (tree_of f v) e n r → Checked table (tree_of f t) c at r
  two_parts t c d e u v at n holds parts items first r h = all_by_parts t c (d ∷ e ∷ []) (u ∷ v ∷ []) at r holds parts items refl (inl (n, first, alone v e n r h))

  pub first_bad : (t : T.Tree R) (c d e : Claim) (u v : T.Tree R) (at n : ℕ) → (row_at t c).holds → (row_at t c).parts ≡ d ∷ e ∷ [] → (out-Tree R t).parts.items ≡ u ∷ v ∷ [] →
      Checked table (tree_of f u) d (next at) (Err n) → Checked table (tree_of f t) c at (Err n)
  first_bad t c d e u v at n holds parts items first = all_by_parts t c (d ∷ e ∷ []) (u ∷ v ∷ []) at (Err n) holds parts items refl (inr (n, first, refl))
