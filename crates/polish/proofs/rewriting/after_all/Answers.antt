-- One step more, and what comes after it.
use Rattle.std.proofs.Common.{rules, ◌≡◌, Some, refl, sym, subst}
use Rattle.monad_lang.specs.CodeProgram.{mon_of}
use Rattle.expression_steps.specs.Shortened.{shortened}
use Rattle.rule_eq.specs.Rule as R
use Rattle.rule_walks.specs.Balanced.{single}
use Rattle.rule_walks.specs.Walk.{Goes, then_walked}
use Rattle.rule_walks.specs.CodeWalks.{with_steps}
use Rattle.polish.specs.Direct.{direct_step}
use Rattle.polish.specs.Polished.{leaf, shortened_in}
use Rattle.polish.specs.Seen.{seen}
use Rattle.polish.specs.CodePoint.{point_in}
use Rattle.polish.proofs.Walks.{step_fewer}
use Rattle.polish.proofs.StepsKept.{more_made}
use Rattle.polish.proofs.rewriting.after_all.Goals as goal

pub steps-smaller : goal.steps-smaller
steps-smaller c =
    let at = point_in c.args.unit c.args.scope.now c.args.facts.now in
    let step : direct_step shortened at (mon_of c.steps.last.value) ≡ Some (mon_of c.in-Some-2.next.value) = search rules in
    step_fewer at (mon_of c.steps.last.value) (mon_of c.in-Some-2.next.value) step

pub steps-preserved : goal.steps-preserved
steps-preserved c =
    let at = point_in c.args.unit c.args.scope.now c.args.facts.now in
    let step : direct_step shortened at (mon_of c.steps.last.value) ≡ Some (mon_of c.in-Some-2.next.value) = search rules in
    let next = mon_of c.in-Some-2.next.value in
    let whole = seen (shortened_in at (mon_of c.args.m.now)) in
    subst
    (λ ss. then_walked (Goes (with_steps ss (single (leaf R.Exp)))) next (seen (shortened_in at next)) ≡ whole)
    (sym c.in_ok-push.ensures.items)
    (more_made at c.steps.steps.items (record { tree = c.leaf-tree.result; program = c.steps.last })
    (mon_of c.steps.last.value) next whole step c.leaf-tree.ensures refl c.steps.invariant)
