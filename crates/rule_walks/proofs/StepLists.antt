-- Steps that stand in lists: one more, others behind them, and a chain of them with another one behind it.
use Rattle.std.proofs.Common.{◌≡◌, suc, ◌%◌, true, false, List, [], ◌∷◌, ◌++◌, length, Option, None, Some, refl, sym, ap, ◌∙◌, arith, eq-eqb}
use Rattle.std.specs.Prelude.{nat_eq, slice_index_or, ◌⊎◌, ◌≢◌}
use Rattle.std.proofs.Common.{inl, inr}
use Rattle.std.specs.List.{remove}
use Rattle.std.proofs.lemmas.Bool.Decides.{eqb_tells}
use Rattle.monad_lang.specs.Program.{Mon}
use Rattle.monad_lang.specs.CodeProgram.{mon_of}
use Rattle.rule_trees.specs.RuleTree.{Tree}
use Rattle.rule_eq.specs.Rule.{Rule}
use Rattle.rule_eq.specs.CodeRule.{tree_of}
use Rattle.rule_walks.specs.Balanced.{Chain, single, before, chained, paired, paired_from, round, links, built}
use Rattle.rule_walks.specs.CodeWalks.{with_steps, with_waiting, has_links}
use Rattle.rule_walks.specs.declared.walks.Step as S
use Rattle.rule_trees.specs.RuleTree.{node, no_trees, tree}
use Rattle.rule_eq.specs.Rule as R

pub with_steps_push : (ss : List S.Step) (s : S.Step) (c : Chain) →
    with_steps (ss ++ s ∷ []) c ≡ with_steps ss (before (tree_of s.tree) (mon_of s.program.value) c)
with_steps_push [] s c = refl
with_steps_push (x ∷ ss) s c = ap (λ d. before (tree_of x.tree) (mon_of x.program.value) d) (with_steps_push ss s c)

pub chained_steps : (ss : List S.Step) (t : Tree Rule) (m : Mon) (d : Chain) →
    chained (with_steps ss (single t)) m d ≡ with_steps ss (before t m d)
chained_steps [] t m d = refl
chained_steps (s ∷ ss) t m d = ap (λ c. before (tree_of s.tree) (mon_of s.program.value) c) (chained_steps ss t m d)

pub with_steps_on : (ss rs : List S.Step) (c : Chain) → with_steps (ss ++ rs) c ≡ with_steps ss (with_steps rs c)
with_steps_on [] rs c = refl
with_steps_on (s ∷ ss) rs c = ap (λ d. before (tree_of s.tree) (mon_of s.program.value) d) (with_steps_on ss rs c)

-- a chain from steps, one more and then others
pub chained_made : (ss rs all : List S.Step) (s : S.Step) (t : Tree Rule) → all ≡ (ss ++ s ∷ []) ++ rs →
    with_steps all (single t)
    ≡ chained (with_steps ss (single (tree_of s.tree))) (mon_of s.program.value) (with_steps rs (single t))
chained_made ss rs all s t e =
    ap (λ xs. with_steps xs (single t)) e ∙ with_steps_on (ss ++ s ∷ []) rs (single t)
    ∙ with_steps_push ss s (with_steps rs (single t))
    ∙ sym (chained_steps ss (tree_of s.tree) (mon_of s.program.value) (with_steps rs (single t)))

-- In pairs, behind what was made before: one step waits, or is joined with the one that waits.

module _ (before' ys ms : List S.Step) (s : S.Step) where
  pub waits : ((c : Chain) → with_steps before' (paired (with_steps ys c)) ≡ with_steps ms (paired (with_waiting None c))) → (c : Chain) →
      with_steps before' (paired (with_steps (ys ++ s ∷ []) c)) ≡ with_steps ms (paired (with_waiting (Some s) c))
  waits h c = ap (λ d. with_steps before' (paired d)) (with_steps_push ys s c) ∙ h (before (tree_of s.tree) (mon_of s.program.value) c)

  pub pairs : (a b : S.Step) (made : List S.Step) (waiting left : Option S.Step) → made ≡ ms ++ b ∷ [] → waiting ≡ Some a → left ≡ None →
      ((c : Chain) → with_steps before' (paired (with_steps ys c)) ≡ with_steps ms (paired (with_waiting waiting c))) →
      tree_of b.tree ≡ node (R.Trans (mon_of a.program.value)) (tree (tree_of a.tree) (tree (tree_of s.tree) no_trees)) →
      mon_of b.program.value ≡ mon_of s.program.value → (c : Chain) →
      with_steps before' (paired (with_steps (ys ++ s ∷ []) c)) ≡ with_steps made (paired (with_waiting left c))
  pairs a b made waiting left e f g h i j c =
      ap (λ d. with_steps before' (paired d)) (with_steps_push ys s c) ∙ h (before (tree_of s.tree) (mon_of s.program.value) c)
      ∙ ap (λ w. with_steps ms (paired (with_waiting w (before (tree_of s.tree) (mon_of s.program.value) c)))) f
      ∙ ap (λ t. with_steps ms (before t (mon_of s.program.value) (paired c))) (sym i)
      ∙ ap (λ m. with_steps ms (before (tree_of b.tree) m (paired c))) (sym j)
      ∙ sym (with_steps_push ms b (paired c))
      ∙ ap (λ ss. with_steps ss (paired c)) (sym e)
      ∙ ap (λ w. with_steps made (paired (with_waiting w c))) (sym g)

-- A round

pub none_alone : (ss : List S.Step) (t : Tree Rule) → length ss ≡ 0 →
    with_steps ss (single t) ≡ paired_from true (with_steps ss (single t))
none_alone [] t h = refl
none_alone (s ∷ ss) t h = absurd (omega (arith, h))

pub first_then : (ss rest ms : List S.Step) (first : S.Step) (t : Tree Rule) → (length ss ≡ 0 → ⊥) →
    first ≡ slice_index_or ss 0 first → rest ≡ remove ss 0 → ms ≡ first ∷ [] →
    with_steps ms (paired (with_steps rest (single t))) ≡ paired_from true (with_steps ss (single t))
first_then [] rest ms first t h f r m = absurd (h refl)
first_then (s ∷ ss) rest ms first t h f r m =
    ap (λ xs. with_steps xs (paired (with_steps rest (single t)))) m
    ∙ ap (λ xs. before (tree_of first.tree) (mon_of first.program.value) (paired (with_steps xs (single t)))) r
    ∙ ap (λ (x : S.Step). before (tree_of x.tree) (mon_of x.program.value) (paired (with_steps ss (single t)))) f

links_of : (ss : List S.Step) (t : Tree Rule) → links (with_steps ss (single t)) ≡ length ss
links_of [] t = refl
links_of (s ∷ ss) t = ap suc (links_of ss t)

pub even_round : (ss : List S.Step) (t : Tree Rule) → length ss % 2 ≡ 0 →
    paired_from true (with_steps ss (single t)) ≡ round (with_steps ss (single t))
even_round ss t h =
    ap (λ b. paired_from b (with_steps ss (single t))) (sym (eq-eqb (links (with_steps ss (single t)) % 2) 0 (ap (λ n. n % 2) (links_of ss t) ∙ h)))

pub odd_round : (ss : List S.Step) (t : Tree Rule) → (length ss % 2 ≡ 0 → ⊥) →
    paired (with_steps ss (single t)) ≡ round (with_steps ss (single t))
odd_round ss t h = there (eqb_tells (links (with_steps ss (single t)) % 2) 0)
  where
    c : Chain
    c = with_steps ss (single t)

    there : ((nat_eq (links c % 2) 0 ≡ true) × (links c % 2 ≡ 0)) ⊎ ((nat_eq (links c % 2) 0 ≡ false) × (links c % 2 ≢ 0)) →
        paired c ≡ round c
    there (inl e) = absurd (h (ap (λ n. n % 2) (sym (links_of ss t)) ∙ e.1))
    there (inr e) = ap (λ b. paired_from b c) (sym e.0)

-- no step is left
pub last_alone : (ss : List S.Step) (t : Tree Rule) → has_links (with_steps ss (single t)) ≡ false → t ≡ built (with_steps ss (single t))
last_alone [] t h = refl
last_alone (s ∷ ss) t h = absurd cc
