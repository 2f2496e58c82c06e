-- The names of the parts of a sequence, by the code's trees.
use Rattle.std.proofs.Common.{◌≡◌, ◌+◌, ℕ, suc, false, List, [], ◌∷◌, length, Option, Some, None, refl, sym, ap, ap₂, ◌∙◌, ◌↔◌, arith, IsTrue}
use Rattle.std.specs.Option.{option_map}
use Rattle.std.proofs.lemmas.Bool.{false≢true}
use Rattle.c_values.specs.Name.{Name}
use Rattle.c_values.proofs.Options.{some_is}
use Rattle.expression_lang.specs.Sort.{Kind, word_sort_of, scalar_sort}
use Rattle.expression_lang.specs.Signature.{Binder}
use Rattle.monad_lang.specs.Program as M
use Rattle.monad_lang.specs.Program.{Mon}
use Rattle.rule_trees.specs.declared.tree.Tree as T
use Rattle.rule_trees.specs.RuleTree.{node, tree, no_trees, count}
use Rattle.rule_trees.specs.CodeTree.{trees_in}
use Rattle.rule_trees.proofs.Parts.{tree_parts}
use Rattle.rule_word.specs.declared.rule.Rule as C
use Rattle.rule_word.specs.declared.rule.View as V
use Rattle.rule_word.specs.Rule as R
use Rattle.rule_word.specs.Rule.{Rule, View}
use Rattle.rule_word.specs.Scopes.{names_in, view_for}
use Rattle.rule_word.specs.CodeClaims.{is_bind}
use Rattle.rule_word.specs.CodeNames.{kind_among, kind_passed, kind_in}
use Rattle.rule_word.specs.CodeRule.{rule_of, rule_at, tree_of, view_of}
use Rattle.rule_word.proofs.KindsAmong.{no_bind, not_two, no_names, by_kind}
use Rattle.rule_word.proofs.Walked.{parts_at}

counted : (ts : List (T.Tree C.Rule)) → count (trees_in rule_of ts) ≡ length ts
counted [] = refl
counted (t ∷ ts) = ap suc (counted ts)

module _ (t : T.Tree C.Rule) (n : ℕ) (m : Mon) (y : Name) (found : Option Kind) where
  pub ends_rule : is_bind (rule_at t) ≡ false → kind_passed n (tree_of t) m y found ≡ found
  ends_rule h = ap (λ u. kind_passed n u m y found) (tree_parts rule_of t) ∙ no_bind n (rule_at t) (trees_in rule_of (parts_at t)) m y found h

  pub ends_parts : (length (parts_at t) ≡ 2 → ⊥) → kind_passed n (tree_of t) m y found ≡ found
  ends_parts h = ap (λ u. kind_passed n u m y found) (tree_parts rule_of t) ∙ not_two n (rule_at t) (trees_in rule_of (parts_at t)) m y found (λ e. h (sym (counted (parts_at t)) ∙ e))

  module _ (js : List Kind) (a b : T.Tree C.Rule) (rule : rule_at t ≡ R.Bind js) (items : parts_at t ≡ a ∷ b ∷ []) where
    tree_is : tree_of t ≡ node (R.Bind js) (tree (tree_of a) (tree (tree_of b) no_trees))
    tree_is = tree_parts rule_of t ∙ ap₂ (λ q ts. node q (trees_in rule_of ts)) rule items

    pub ends_names : ((l : Mon) (xs : List Name) (r : Mon) → m ≡ M.Bind l xs r → ⊥) → kind_passed n (tree_of t) m y found ≡ found
    ends_names h = ap (λ u. kind_passed n u m y found) tree_is ∙ no_names n js (tree_of a) (tree_of b) m y found h

    pub goes_on : (l r : Mon) (xs : List Name) → m ≡ M.Bind l xs r → kind_passed (n + 1) (tree_of t) m y found ≡ kind_passed n (tree_of b) r y (kind_among xs js y found)
    goes_on l r xs e = let one : n + 1 ≡ suc n = omega arith in ap₂ (λ u q. kind_passed (n + 1) u q y found) tree_is e ∙ ap (λ k. kind_passed k (node (R.Bind js) (tree (tree_of a) (tree (tree_of b) no_trees))) (M.Bind l xs r) y found) one

module _ (bs : List Binder) (x : Name) (v : V.View) where
  abbrev seen : Option View
  seen = Some (view_of (scalar_sort (names_in word_sort_of bs x)) v)

  pub seen_named : (k : Kind) (p : Type 0) → Some k ≡ kind_in bs x → (p ↔ (view_for k ≡ view_of (scalar_sort (Some (word_sort_of k))) v)) → p ↔ (names_in view_for bs x ≡ seen)
  seen_named k p h says =
      let views : names_in view_for bs x ≡ Some (view_for k) = by_kind view_for bs x ∙ ap (λ o. option_map view_for o) (sym h) in
      let words : names_in word_sort_of bs x ≡ Some (word_sort_of k) = by_kind word_sort_of bs x ∙ ap (λ o. option_map word_sort_of o) (sym h) in (
        (λ i. views ∙ ap (λ w. Some w) (says.0 i) ∙ sym (ap (λ o. Some (view_of (scalar_sort o) v)) words)),
        (λ j. says.1 (some_is (sym views ∙ j ∙ ap (λ o. Some (view_of (scalar_sort o) v)) words))),
      )

  pub seen_unnamed : None ≡ kind_in bs x → IsTrue false ↔ (names_in view_for bs x ≡ seen)
  seen_unnamed h =
      let views : names_in view_for bs x ≡ None = by_kind view_for bs x ∙ ap (λ o. option_map view_for o) (sym h) in (
        (λ i. absurd (false≢true i)),
        (λ j. let clash : None ≡ seen = sym views ∙ j in absurd cc),
      )
