-- How far a stretch has come.
use Rattle.std.proofs.Common.{◌≡◌, ◌+◌, ℕ, List, sym, subst, ap, ◌∙◌}
use Rattle.c_values.specs.Name.{Name}
use Rattle.expression_lang.specs.Sort.{Kind}
use Rattle.expression_lang.specs.Signature.{Binder}
use Rattle.monad_lang.specs.Program.{Mon}
use Rattle.rule_trees.specs.RuleTree.{Tree}
use Rattle.rule_word.specs.declared.stretch.Stretch as S
use Rattle.rule_word.specs.Rule.{Rule}
use Rattle.rule_word.specs.Scopes.{with_kinds}
use Rattle.rule_word.specs.CodeNames.{with_passed}
use Rattle.rule_word.specs.CodeStretch.{count_in, tree_in, parts_in, behind, IsNext}
use Rattle.rule_word.proofs.Sequences.{NamesLeft}

-- the stretch has so many parts of a sequence
pub record Stands (s : S.Stretch) (n : ℕ) (t : Tree Rule) (m : Mon) : Type 0 where
  pub count : count_in s ≡ n
  pub tree : tree_in s ≡ t
  pub parts : parts_in s ≡ m

pub names_there : (s : S.Stretch) (n : ℕ) (t : Tree Rule) (m : Mon) → Stands s n t m → (bs : List Binder) → behind s bs ≡ with_passed n t m bs
names_there s n t m h bs =
    ap (λ k. with_passed k (tree_in s) (parts_in s) bs) h.count ∙ ap (λ u. with_passed n u (parts_in s) bs) h.tree
    ∙ ap (λ l. with_passed n t l bs) h.parts

pub on_from : (s r : S.Stretch) (n : ℕ) (t : Tree Rule) (m : Mon) → Stands s n t m → count_in r ≡ count_in s + 1 → tree_in r ≡ tree_in s → parts_in r ≡ parts_in s → Stands r (n + 1) t m
on_from s r n t m h e f g = record { count = e ∙ ap (λ k. k + 1) h.count; tree = f ∙ h.tree; parts = g ∙ h.parts }

pub next_from : (s : S.Stretch) (n : ℕ) (t : Tree Rule) (m : Mon) → Stands s n t m → (xs : List Name) (js : List Kind) (v : Tree Rule) (rest : Mon) → IsNext xs js v rest n t m →
    IsNext xs js v rest (count_in s) (tree_in s) (parts_in s)
next_from s n t m h xs js v rest next =
    subst (λ k. IsNext xs js v rest k (tree_in s) (parts_in s)) (sym h.count)
    (subst (λ u. IsNext xs js v rest n u (parts_in s)) (sym h.tree) (subst (λ l. IsNext xs js v rest n t l) (sym h.parts) next))

pub next_is : (n : ℕ) (t : Tree Rule) (m : Mon) (xs : List Name) (js : List Kind) (v : Tree Rule) (rest : Mon) → ((bs : List Binder) → with_kinds xs js (with_passed n t m bs) ≡ with_passed (n + 1) t m bs) →
    NamesLeft v rest (n + 1) t m → IsNext xs js v rest n t m
next_is n t m xs js v rest binds left = record { bound = λ bs. sym (binds bs); onward = λ k bs. left.left k bs }
