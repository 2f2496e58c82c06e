-- A tree that is checked to its end is accepted, an accepted tree has no first bad node, and a tree has one verdict.
use Rattle.std.proofs.Common.{◌≡◌, ℕ, suc, List, [], ◌∷◌, inl, inr, Result, Ok, Err, length, refl, sym, subst, ap, ◌∙◌}
use Rattle.rule_trees.specs.RuleTree.{Tree, node, Trees, no_trees, tree, count, Table, Accepts, AcceptsAll, next, Checked, AllChecked, IsVerdict}

ok_err : {A : Type 0} {m n : ℕ} → ◌≡◌ {A = Result ℕ ℕ} (Ok m) (Err n) → A
ok_err h = cc

pub ok_is : {m n : ℕ} → ◌≡◌ {A = Result ℕ ℕ} (Ok m) (Ok n) → m ≡ n
ok_is h = cc

pub err_is : {m n : ℕ} → ◌≡◌ {A = Result ℕ ℕ} (Err m) (Err n) → m ≡ n
err_is h = cc

module _ {Rule Claim : Type 0} (table : Table Rule Claim) where
  mutual
    pub checked_accepts : (t : Tree Rule) (c : Claim) (at n : ℕ) → Checked table t c at (Ok n) → Accepts table t c
    checked_accepts (node rule trees) c at n (inl h) = (h.0.holds, all_checked_accept trees (table rule c).parts (next at) n h.1)
    checked_accepts (node rule trees) c at n (inr h) = ok_err h.1

    all_checked_accept : (ts : Trees Rule) (cs : List Claim) (at n : ℕ) → AllChecked table ts cs at (Ok n) → AcceptsAll table ts cs
    all_checked_accept no_trees [] at n h = tt
    all_checked_accept (tree t ts) (c ∷ cs) at n (inl h) = (checked_accepts t c at h.0 h.1, all_checked_accept ts cs h.0 n h.2)
    all_checked_accept (tree t ts) (c ∷ cs) at n (inr h) = ok_err h.2
    all_checked_accept _ _ _ _ h = absurd h

  a_tree_each : (ts : Trees Rule) (cs : List Claim) → AcceptsAll table ts cs → count ts ≡ length cs
  a_tree_each no_trees [] h = refl
  a_tree_each (tree t ts) (c ∷ cs) h = ap suc (a_tree_each ts cs h.1)
  a_tree_each _ _ h = absurd h

  mutual
    pub accepted_is_never_bad : (t : Tree Rule) (c : Claim) (at n : ℕ) → Accepts table t c → Checked table t c at (Err n) → ⊥
    accepted_is_never_bad (node rule trees) c at n h (inl k) = none_is_bad trees (table rule c).parts (next at) n h.1 k.1
    accepted_is_never_bad (node rule trees) c at n h (inr k) = k.0 (record { holds = h.0; parts = a_tree_each trees (table rule c).parts h.1 })

    none_is_bad : (ts : Trees Rule) (cs : List Claim) (at n : ℕ) → AcceptsAll table ts cs → AllChecked table ts cs at (Err n) → ⊥
    none_is_bad no_trees [] at n h k = ok_err (sym k)
    none_is_bad (tree t ts) (c ∷ cs) at n h (inl k) = none_is_bad ts cs k.0 n h.1 k.2
    none_is_bad (tree t ts) (c ∷ cs) at n h (inr k) = accepted_is_never_bad t c at k.0 h.0 k.1
    none_is_bad _ _ _ _ h _ = absurd h

  mutual
    pub checked_once : (t : Tree Rule) (c : Claim) (at : ℕ) (r r' : Result ℕ ℕ) → Checked table t c at r → Checked table t c at r' → r ≡ r'
    checked_once (node rule trees) c at r r' (inl h) (inl k) = all_checked_once trees (table rule c).parts (next at) r r' h.1 k.1
    checked_once (node rule trees) c at r r' (inl h) (inr k) = absurd (k.0 h.0)
    checked_once (node rule trees) c at r r' (inr h) (inl k) = absurd (h.0 k.0)
    checked_once (node rule trees) c at r r' (inr h) (inr k) = h.1 ∙ sym k.1

    all_checked_once : (ts : Trees Rule) (cs : List Claim) (at : ℕ) (r r' : Result ℕ ℕ) → AllChecked table ts cs at r → AllChecked table ts cs at r' → r ≡ r'
    all_checked_once no_trees [] at r r' h k = h ∙ sym k
    all_checked_once (tree t ts) (c ∷ cs) at r r' (inl h) (inl k) =
        all_checked_once ts cs h.0 r r' h.2 (subst (λ n. AllChecked table ts cs n r') (sym (ok_is (checked_once t c at (Ok h.0) (Ok k.0) h.1 k.1))) k.2)
    all_checked_once (tree t ts) (c ∷ cs) at r r' (inl h) (inr k) = ok_err (checked_once t c at (Ok h.0) (Err k.0) h.1 k.1)
    all_checked_once (tree t ts) (c ∷ cs) at r r' (inr h) (inl k) = ok_err (sym (checked_once t c at (Err h.0) (Ok k.0) h.1 k.1))
    all_checked_once (tree t ts) (c ∷ cs) at r r' (inr h) (inr k) = h.2 ∙ checked_once t c at (Err h.0) (Err k.0) h.1 k.1 ∙ sym k.2
    all_checked_once _ _ _ _ _ h _ = absurd h

  pub one_verdict : (t : Tree Rule) (c : Claim) (r r' : Result (Unit {0}) ℕ) → IsVerdict table t c r → IsVerdict table t c r' → r ≡ r'
  one_verdict t c (Ok u) (Ok v) h k = refl
  one_verdict t c (Ok u) (Err n) h k = absurd (accepted_is_never_bad t c 0 n h k)
  one_verdict t c (Err n) (Ok u) h k = absurd (accepted_is_never_bad t c 0 n k h)
  one_verdict t c (Err n) (Err m) h k = ap (λ j. Err j) (err_is (checked_once t c 0 (Err n) (Err m) h k))
