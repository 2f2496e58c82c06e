-- What a checker finds at a node, for any table, by what it finds at each of the parts in turn.
use Rattle.std.proofs.Common.{◌≡◌, ℕ, [], ◌∷◌, inl, inr, Result, Ok, Err, refl, sym, subst, ap, ◌∙◌}
use Rattle.std.specs.Prelude.{List, length}
use Rattle.std.specs.Result.{IsErrAnd}
use Rattle.rule_trees.specs.RuleTree.{Tree, Trees, node, no_trees, tree, count, Table, Checked, AllChecked, next}

-- what is handed on is the node that was told
pub told_err : {A : Type 0} (r : Result A ℕ) (n : ℕ) → IsErrAnd r (λ e. e ≡ n) → Err n ≡ r
told_err (Ok x) n h = absurd h
told_err (Err e) n h = ap (λ i. Err i) (sym h)

module _ {Rule Claim : Type 0} (table : Table Rule Claim) where
  -- the first part has a bad node
  pub ends_first : (t : Tree Rule) (ts : Trees Rule) (c : Claim) (cs : List Claim) (at n : ℕ) → Checked table t c at (Err n) →
      AllChecked table (tree t ts) (c ∷ cs) at (Err n)
  ends_first t ts c cs at n h = inr (n, h, refl)

  -- it has none, and the others decide
  pub goes_on : (t : Tree Rule) (ts : Trees Rule) (c : Claim) (cs : List Claim) (at n : ℕ) (r : Result ℕ ℕ) → Checked table t c at (Ok n) →
      AllChecked table ts cs n r → AllChecked table (tree t ts) (c ∷ cs) at r
  goes_on t ts c cs at n r h k = inl (n, h, k)

  -- the last decides
  pub last_decides : (t : Tree Rule) (c : Claim) (at : ℕ) (r : Result ℕ ℕ) → Checked table t c at r → AllChecked table (tree t no_trees) (c ∷ []) at r
  last_decides t c at (Ok n) h = inl (n, h, refl)
  last_decides t c at (Err n) h = inr (n, h, refl)

  module _ (rule : Rule) (c : Claim) (at : ℕ) where
    pub no_instance : (ts : Trees Rule) → ((table rule c).holds → ⊥) → Checked table (node rule ts) c at (Err at)
    no_instance ts h = inr ((λ i. h i.holds), refl)

    pub by_parts : (ts : Trees Rule) (cs : List Claim) (later : ℕ) (r : Result ℕ ℕ) → (table rule c).holds → (table rule c).parts ≡ cs →
        count ts ≡ length cs → later ≡ next at → AllChecked table ts cs later r → Checked table (node rule ts) c at r
    by_parts ts cs later r holds parts same e h =
        inl (
          record { holds = holds; parts = same ∙ sym (ap length parts) },
          subst (λ ps. AllChecked table ts ps (next at) r) (sym parts) (subst (λ n. AllChecked table ts cs n r) e h),
        )

    -- one part
    pub one_part : (t : Tree Rule) (d : Claim) (later : ℕ) (r : Result ℕ ℕ) → (table rule c).holds → (table rule c).parts ≡ d ∷ [] → later ≡ next at →
        Checked table t d later r → Checked table (node rule (tree t no_trees)) c at r
    one_part t d later r holds parts e h = by_parts (tree t no_trees) (d ∷ []) later r holds parts refl e (last_decides t d later r h)
