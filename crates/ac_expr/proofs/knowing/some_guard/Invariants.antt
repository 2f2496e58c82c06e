-- The guard of some part that is left passes exactly where that of one of all does.
use Rattle.std.proofs.Common.{◌↔◌}
use Rattle.ac_expr.specs.CodeLasting.{lasts}
use Rattle.ac_expr.specs.Guarded.{SomeGuard, Lasting}
use Rattle.ac_expr.proofs.knowing.some_guard.Given as goal

abbrev pub invariant-along : goal.invariant-along
invariant-along g l = SomeGuard (Lasting (g.T.FactTest.Passes l.test) (lasts g.S.Sequence.parts l.after)) l.left (g.S.Sequence.parts l.rest)
    ↔ SomeGuard (Lasting (g.T.FactTest.Passes l.test) (lasts g.S.Sequence.parts l.after)) l.count (g.S.Sequence.parts l.fn.parts)

abbrev pub decreases-along : goal.decreases-along
decreases-along g l = l.left
