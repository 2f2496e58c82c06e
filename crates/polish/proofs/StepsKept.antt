-- Steps of expressions, one after the other, as the code keeps them.
use Rattle.std.proofs.Common.{◌≡◌, List, [], ◌∷◌, ◌++◌, None, Some, sym, ap, ap₂, ◌∙◌}
use Rattle.monad_lang.specs.Program.{Mon}
use Rattle.monad_lang.specs.CodeProgram.{mon_of}
use Rattle.rule_eq.specs.Rule as R
use Rattle.rule_eq.specs.Rule.{Point}
use Rattle.rule_eq.specs.CodeRule.{tree_of}
use Rattle.rule_walks.specs.Balanced.{single, before}
use Rattle.rule_walks.specs.Walk.{Goes, stays, Walked, walked, then_walked}
use Rattle.rule_walks.specs.CodeWalks.{with_steps}
use Rattle.rule_walks.specs.declared.walks.Step as S
use Rattle.rule_walks.proofs.StepLists.{with_steps_push, chained_steps}
use Rattle.expression_steps.specs.Shortened.{shortened}
use Rattle.polish.specs.Direct.{direct_step}
use Rattle.polish.specs.Polished.{leaf, shortened_in}
use Rattle.polish.specs.Seen.{seen}
use Rattle.polish.proofs.Walks.{rewritten_on, rewritten_no_more, walks_on}

module _ (at : Point) where
  -- these steps to a program, and then those that are left
  abbrev pub on_from : List S.Step → Mon → Walked
  on_from ss m = then_walked (Goes (with_steps ss (single (leaf R.Exp)))) m (seen (shortened_in at m))

  pub none_made : (m : Mon) → direct_step shortened at m ≡ None → walked m stays ≡ seen (shortened_in at m)
  none_made m h = sym (rewritten_no_more at m h)

  pub one_made : (ss : List S.Step) (m x : Mon) → ss ≡ [] → direct_step shortened at m ≡ Some x →
      on_from ss x ≡ seen (shortened_in at m)
  one_made ss m x e h = ap (λ rs. on_from rs x) e ∙ sym (rewritten_on at m x h)

  pub more_made : (ss : List S.Step) (s : S.Step) (m x : Mon) (whole : Walked) → direct_step shortened at m ≡ Some x →
      tree_of s.tree ≡ leaf R.Exp → mon_of s.program.value ≡ m → on_from ss m ≡ whole → on_from (ss ++ s ∷ []) x ≡ whole
  more_made ss s m x whole h i j k =
      ap (λ c. then_walked (Goes c) x (seen (shortened_in at x)))
      (with_steps_push ss s (single (leaf R.Exp)) ∙ ap₂ (λ t r. with_steps ss (before t r (single (leaf R.Exp)))) i j
      ∙ sym (chained_steps ss (leaf R.Exp) m (single (leaf R.Exp))))
      ∙ sym (walks_on (with_steps ss (single (leaf R.Exp))) m (leaf R.Exp) x (seen (shortened_in at x)))
      ∙ ap (then_walked (Goes (with_steps ss (single (leaf R.Exp)))) m) (sym (rewritten_on at m x h))
      ∙ k

  pub all_made : (ss : List S.Step) (m : Mon) (whole : Walked) → direct_step shortened at m ≡ None → on_from ss m ≡ whole →
      walked m (Goes (with_steps ss (single (leaf R.Exp)))) ≡ whole
  all_made ss m whole h k =
      ap (then_walked (Goes (with_steps ss (single (leaf R.Exp)))) m) (sym (rewritten_no_more at m h)) ∙ k
