use Rattle.std.proofs.Common.{rules}
use Rattle.std.proofs.lemmas.Result.{IfOk-weaker}
use Rattle.local_lift.proofs.RowLaws.{way_taken}
use Rattle.local_lift.proofs.changes.with_way.Goals as goal

pub returns : goal.returns
returns c =
    IfOk-weaker c.either.result _ _ (λ r e bs x w i n. way_taken bs c.args.k x w c.args.row.flags.items c.args.way.now.flags.items r.flags.items (search rules) e i n) c.either.ensures
