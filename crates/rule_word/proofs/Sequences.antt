-- What is left of parts of which so many were passed.
use Rattle.std.proofs.Common.{◌≡◌, ℕ, suc, ◌+◌, List, ◌∷◌, sym, ap, ◌∙◌, arith}
use Rattle.c_values.specs.Name.{Name}
use Rattle.expression_lang.specs.Sort.{Kind}
use Rattle.expression_lang.specs.Signature.{Binder}
use Rattle.ac_expr.specs.Fact.{Fact}
use Rattle.ac_expr.specs.Passed.{Part, passed, after}
use Rattle.monad_lang.specs.Program as M
use Rattle.monad_lang.specs.Program.{Mon}
use Rattle.rule_trees.specs.RuleTree.{Tree, node, tree, no_trees}
use Rattle.rule_word.specs.Rule as R
use Rattle.rule_word.specs.Rule.{Rule}
use Rattle.rule_word.specs.Scopes.{with_kinds}
use Rattle.rule_word.specs.CodeNames.{with_passed}

-- facts
pub record FactsLeft (ps : List Part) (n : ℕ) (all : List Part) : Type 0 where
  pub left : (k : ℕ) (fs : List Fact) → passed k ps (passed n all fs) ≡ passed (n + k) all fs

pub one_fact_passed : (p : Part) (ps qs : List Part) (n : ℕ) (all : List Part) → qs ≡ p ∷ ps → FactsLeft qs n all → (fs : List Fact) → after p (passed n all fs) ≡ passed (n + 1) all fs
one_fact_passed p ps qs n all e h fs = ap (λ rs. passed 1 rs (passed n all fs)) (sym e) ∙ h.left 1 fs

pub more_facts_passed : (p : Part) (ps qs : List Part) (n : ℕ) (all : List Part) → qs ≡ p ∷ ps → FactsLeft qs n all → FactsLeft ps (n + 1) all
more_facts_passed p ps qs n all e h = record {
  left = λ k fs.
      let c : n + suc k ≡ n + 1 + k = omega arith in
      ap (λ gs. passed k ps gs) (sym (one_fact_passed p ps qs n all e h fs)) ∙ ap (λ rs. passed (suc k) rs (passed n all fs)) (sym e)
      ∙ h.left (suc k) fs ∙ ap (λ j. passed j all fs) c;
}

-- names
pub record NamesLeft (t : Tree Rule) (m : Mon) (n : ℕ) (u : Tree Rule) (all : Mon) : Type 0 where
  pub left : (k : ℕ) (bs : List Binder) → with_passed k t m (with_passed n u all bs) ≡ with_passed (n + k) u all bs

abbrev step : List Kind → Tree Rule → Tree Rule → Tree Rule
step js a b = node (R.Bind js) (tree a (tree b no_trees))

module _ (js : List Kind) (a b : Tree Rule) (m : Mon) (xs : List Name) (m' : Mon) where
  pub one_name_passed : (t : Tree Rule) (l : Mon) (n : ℕ) (u : Tree Rule) (all : Mon) → t ≡ step js a b → l ≡ M.Bind m xs m' → NamesLeft t l n u all → (bs : List Binder) →
      with_kinds xs js (with_passed n u all bs) ≡ with_passed (n + 1) u all bs
  one_name_passed t l n u all e f h bs = ap (λ q. with_passed 1 q (M.Bind m xs m') (with_passed n u all bs)) (sym e) ∙ ap (λ q. with_passed 1 t q (with_passed n u all bs)) (sym f) ∙ h.left 1 bs

  pub more_names_passed : (t : Tree Rule) (l : Mon) (n : ℕ) (u : Tree Rule) (all : Mon) → t ≡ step js a b → l ≡ M.Bind m xs m' → NamesLeft t l n u all → NamesLeft b m' (n + 1) u all
  more_names_passed t l n u all e f h = record {
    left = λ k bs.
        let c : n + suc k ≡ n + 1 + k = omega arith in
        ap (λ cs. with_passed k b m' cs) (sym (one_name_passed t l n u all e f h bs))
        ∙ ap (λ q. with_passed (suc k) q (M.Bind m xs m') (with_passed n u all bs)) (sym e) ∙ ap (λ q. with_passed (suc k) t q (with_passed n u all bs)) (sym f)
        ∙ h.left (suc k) bs ∙ ap (λ j. with_passed j u all bs) c;
  }
