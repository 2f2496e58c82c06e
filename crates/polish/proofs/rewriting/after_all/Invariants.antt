-- The steps so far, and those that come, are all.
use Rattle.std.proofs.Common.{◌≡◌}
use Rattle.monad_lang.specs.CodeProgram.{mon_of}
use Rattle.rule_eq.specs.Rule as R
use Rattle.rule_walks.specs.Balanced.{single}
use Rattle.rule_walks.specs.Walk.{Goes, then_walked}
use Rattle.rule_walks.specs.CodeWalks.{with_steps}
use Rattle.expression_steps.specs.Rewritten.{direct_nodes}
use Rattle.polish.specs.Polished.{leaf, shortened_in}
use Rattle.polish.specs.Seen.{seen}
use Rattle.polish.specs.CodePoint.{point_in}
use Rattle.polish.proofs.rewriting.after_all.Given as goal

abbrev pub invariant-steps : goal.invariant-steps
invariant-steps l =
    then_walked (Goes (with_steps l.steps.items (single (leaf R.Exp)))) (mon_of l.last.value)
    (seen (shortened_in (point_in l.unit l.scope l.facts) (mon_of l.last.value)))
    ≡ seen (shortened_in (point_in l.unit l.scope l.facts) (mon_of l.m))

abbrev pub decreases-steps : goal.decreases-steps
decreases-steps l = direct_nodes (mon_of l.last.value)
