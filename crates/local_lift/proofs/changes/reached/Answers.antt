use Rattle.std.proofs.Common.{rules, ◌<◌, length, arith}
use Rattle.local_lift.specs.CodeNames.{names}
use Rattle.local_lift.specs.Live.{through}
use Rattle.local_lift.proofs.RowLaws.{reach_step}
use Rattle.local_lift.proofs.changes.reached.Goals as goal

pub loop-k-preserved : goal.loop-k-preserved
loop-k-preserved c =
    let h : c.loop-k.k < length c.args.locals.now = omega arith in
    λ leads m. reach_step c.args.locals.now c.loop-k.steps.items c.in_ok-steps.steps.items c.loop-k.k c.in_ok-way.way.flags.items (through (names c.args.locals.now) leads) h (search rules)
    (c.in_ok-steps.ensures c.args.locals.now) (c.loop-k.invariant leads m)
