-- What is checked of a tree of rules of assertions is checked of it among those of programs.
use Rattle.std.proofs.Common.{◌≡◌, ℕ, suc, List, [], ◌∷◌, map, length, Result, Ok, Err, inl, inr, refl, sym, ap, ◌∙◌}
use Rattle.expression_lang.specs.Expression.{Exp}
use Rattle.ac_expr.specs.Fact.{Fact}
use Rattle.rule_trees.specs.RuleTree.{Tree, Trees, node, no_trees, tree, count, IsInstance, Checked, AllChecked, next}
use Rattle.triple_lang.specs.Entail as E
use Rattle.triple_lang.specs.Entail.{shown}
use Rattle.entailment.specs.Table as T
use Rattle.triple_lang.specs.Deriv.{Ground, Names, entailed}
use Rattle.hoare_check.specs.DeriveTable.{scope, in_names, shown_row, table}
use Rattle.triple_lang.specs.CodeDeriv.{as_shown, all_as_shown}

same_count : (ts : Trees E.Rule) → count (all_as_shown ts) ≡ count ts
same_count no_trees = refl
same_count (tree t ts) = ap suc (same_count ts)

module _ (k : Ground) (ns : Names) where
  as_many : (cs : List E.Claim) → length (map (in_names ns) cs) ≡ length cs
  as_many [] = refl
  as_many (c ∷ cs) = ap suc (as_many cs)

  instance_there : (rule : E.Rule) (ts : Trees E.Rule) (fs : List Fact) (q : Exp) → IsInstance (T.row k.lifted (scope k ns) fs rule q) ts →
      IsInstance (shown_row k ns fs rule q) (all_as_shown ts)
  instance_there rule ts fs q h = record { holds = h.holds; parts = same_count ts ∙ h.parts ∙ sym (as_many (T.row k.lifted (scope k ns) fs rule q).parts) }

  instance_here : (rule : E.Rule) (ts : Trees E.Rule) (fs : List Fact) (q : Exp) → IsInstance (shown_row k ns fs rule q) (all_as_shown ts) →
      IsInstance (T.row k.lifted (scope k ns) fs rule q) ts
  instance_here rule ts fs q h = record { holds = h.holds; parts = sym (same_count ts) ∙ h.parts ∙ as_many (T.row k.lifted (scope k ns) fs rule q).parts }

  mutual
    pub shown_among : (t : Tree E.Rule) (fs : List Fact) (q : Exp) (at : ℕ) (r : Result ℕ ℕ) →
        Checked (T.table k.lifted (scope k ns)) t (shown fs q) at r → Checked (table k) (as_shown t) (entailed ns fs q) at r
    shown_among (node rule ts) fs q at r (inl h) =
        inl (instance_there rule ts fs q h.0, all_among ts (T.row k.lifted (scope k ns) fs rule q).parts (next at) r h.1)
    shown_among (node rule ts) fs q at r (inr h) = inr ((λ i. h.0 (instance_here rule ts fs q i)), h.1)

    all_among : (ts : Trees E.Rule) (cs : List E.Claim) (at : ℕ) (r : Result ℕ ℕ) → AllChecked (T.table k.lifted (scope k ns)) ts cs at r →
        AllChecked (table k) (all_as_shown ts) (map (in_names ns) cs) at r
    all_among no_trees [] at r h = h
    all_among no_trees (c ∷ cs) at r h = absurd h
    all_among (tree t ts) [] at r h = absurd h
    all_among (tree t ts) (shown fs q ∷ cs) at r (inl h) = inl (h.0, shown_among t fs q at (Ok h.0) h.1, all_among ts cs h.0 r h.2)
    all_among (tree t ts) (shown fs q ∷ cs) at r (inr h) = inr (h.0, shown_among t fs q at (Err h.0) h.1, h.2)
