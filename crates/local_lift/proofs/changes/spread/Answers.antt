use Rattle.std.proofs.lemmas.Result.{IfOk-weaker}
use Rattle.local_lift.proofs.RowLaws.{spread_row}
use Rattle.local_lift.proofs.changes.spread.Goals as goal

pub returns : goal.returns
returns c =
    IfOk-weaker c.with_meant.result _ _
    (λ r e bs leads g h n. spread_row bs leads g c.args.reached.now c.args.own.now.flags.items c.args.row.now.flags.items c.in_ok-from.from.flags.items r.flags.items c.in_ok-from.ensures e h n) c.with_meant.ensures
