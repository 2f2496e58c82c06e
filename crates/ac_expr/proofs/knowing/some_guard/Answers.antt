-- The part's own guard is kept.
use Rattle.std.proofs.Common.{◌<◌, arith, refl}
use Rattle.ac_expr.specs.CodeLasting.{lasts}
use Rattle.ac_expr.specs.Guarded.{Lasting}
use Rattle.ac_expr.proofs.LastingParts.{guard_here}
use Rattle.ac_expr.proofs.knowing.some_guard.Goals as goal

pub returns-then-is_guard_kept : goal.returns-then-is_guard_kept
returns-then-is_guard_kept g c =
    let positive : 0 < c.along.left = omega (arith, c.along-test.true) in (
      (λ h. c.along.invariant.0 (guard_here (Lasting (g.T.FactTest.Passes c.args.test.now) (lasts g.S.Sequence.parts c.args.after.now)) c.along.left (g.S.Sequence.parts c.along.rest) _ (g.S.Sequence.parts c.in-Some.split.rest) positive c.in-Some.ensures.some (c.if-is_guard_kept.ensures.0 h))),
      (λ k. refl),
    )
