-- What a checker finds at a node, for any table: the node is no instance, or it is one and the parts decide.
use Rattle.std.proofs.Common.{◌≡◌, ◌↔◌, ℕ, [], ◌∷◌, Bool, true, false, inl, inr, Result, Ok, Err, refl, sym, subst, ap, ◌∙◌}
use Rattle.std.specs.Prelude.{List, IsTrue, length}
use Rattle.std.proofs.lemmas.Bool.{false≢true}
use Rattle.rule_trees.specs.RuleTree.{Tree, Trees, node, no_trees, tree, count, Table, Checked, AllChecked, next}
use Rattle.rule_trees.specs.CodeFound.{leaf_answer}

module _ {Rule Claim : Type 0} (table : Table Rule Claim) (rule : Rule) (c : Claim) (at : ℕ) where
  abbrev Holds : Type 0
  Holds = (table rule c).holds

  abbrev IsFound : Trees Rule → Result ℕ ℕ → Type 0
  IsFound ts r = Checked table (node rule ts) c at r

  pub refused : (ts : Trees Rule) (b : Bool) → (IsTrue b ↔ Holds) → b ≡ false → IsFound ts (Err at)
  refused ts true h k = absurd (false≢true (sym k))
  refused ts false h k = inr ((λ i. false≢true (h.1 i.holds)), refl)

  -- the parts decide
  by_parts : (ts : Trees Rule) (cs : List Claim) (r : Result ℕ ℕ) → Holds → (table rule c).parts ≡ cs → count ts ≡ length cs →
      AllChecked table ts cs (next at) r → IsFound ts r
  by_parts ts cs r holds parts same h =
      inl (record { holds = holds; parts = same ∙ sym (ap length parts) }, subst (λ ps. AllChecked table ts ps (next at) r) (sym parts) h)

  -- a rule without parts
  leaf_found : (b : Bool) → (table rule c).parts ≡ [] → (IsTrue b ↔ Holds) → IsFound no_trees (leaf_answer b at)
  leaf_found true none h = by_parts no_trees [] (Ok (next at)) (h.0 refl) none refl refl
  leaf_found false none h = refused no_trees false h refl

  pub leaf_checked : (t : Tree Rule) (b : Bool) (r : Result ℕ ℕ) → t ≡ node rule no_trees → (table rule c).parts ≡ [] →
      (IsTrue b ↔ Holds) → r ≡ leaf_answer b at → Checked table t c at r
  leaf_checked t b r e none h answer =
      subst (λ s. Checked table t c at s) (sym answer) (subst (λ u. Checked table u c at (leaf_answer b at)) (sym e) (leaf_found b none h))

  last_alone : (t : Tree Rule) (d : Claim) (n : ℕ) (r : Result ℕ ℕ) → Checked table t d n r → AllChecked table (tree t no_trees) (d ∷ []) n r
  last_alone t d n (Ok m) h = inl (m, h, refl)
  last_alone t d n (Err m) h = inr (m, h, refl)

  -- the last of two parts decides where the first has no bad node
  pub two_parts : (t u : Tree Rule) (d e : Claim) (m n : ℕ) (s r : Result ℕ ℕ) → Holds → (table rule c).parts ≡ d ∷ e ∷ [] → m ≡ next at →
      s ≡ Ok n → Checked table t d m s → Checked table u e n r → IsFound (tree t (tree u no_trees)) r
  two_parts t u d e m n s r holds parts here was first last =
      let first : Checked table t d (next at) (Ok n) =
      subst (λ k. Checked table t d k (Ok n)) here (subst (λ q. Checked table t d m q) was first) in
      by_parts (tree t (tree u no_trees)) (d ∷ e ∷ []) r holds parts refl (inl (n, first, last_alone u e n r last))
