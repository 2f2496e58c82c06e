-- A value put in, and what it was put into made tidy again; and a sequence turned.
use Rattle.std.proofs.Common.{◌≡◌, ℕ, List, Some, None, sym, ap, ◌∙◌}
use Rattle.c_values.specs.Name.{Name}
use Rattle.monad_lang.specs.Program as M
use Rattle.monad_lang.specs.Program.{Mon}
use Rattle.rule_eq.specs.Rule as R
use Rattle.rule_eq.specs.Rule.{Point}
use Rattle.rule_walks.specs.Walk.{stays, one_walk, Walked, walked, Nothing, after_before, and_led}
use Rattle.polish.specs.Polished.{leaf, polished}
use Rattle.polish.specs.CodeNext as S
use Rattle.polish.specs.CodeNext.{stepped}
use Rattle.polish.specs.CodePutting.{put_into}
use Rattle.polish.specs.Seen.{seen}
use Rattle.polish.proofs.Nexts.{put_stepped, none_stepped}
use Rattle.polish.proofs.Descending.{step_seen}

module _ (at : Point) (i : ℕ) (m : Mon) (xs : List Name) (n : Mon) where
  pub put_made : (p : Mon) (q : Walked) → put_into i m xs n ≡ Some p → q ≡ seen (polished at p) →
      after_before (and_led Nothing (one_walk (leaf (R.RetOne i))) p) q ≡ seen (stepped polished at (S.Puts i) m xs n)
  put_made p q h k =
      ap (after_before (and_led Nothing (one_walk (leaf (R.RetOne i))) p)) k
      ∙ sym (step_seen polished (λ a. polished a n) at Nothing (R.RetOne i) p (polished at p))
      ∙ sym (ap seen (put_stepped polished at i m xs n p h))

  pub nothing_put : put_into i m xs n ≡ None → walked (M.Bind m xs n) stays ≡ seen (stepped polished at (S.Puts i) m xs n)
  nothing_put h = sym (ap seen (none_stepped polished at i m xs n h))
