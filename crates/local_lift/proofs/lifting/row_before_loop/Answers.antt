use Rattle.std.proofs.Common.{List, map, string_bytes, sym, subst}
use Rattle.std.proofs.lemmas.Result.{IfOk-weaker}
use Rattle.local_lift.specs.declared.rows.Row.{Row}
use Rattle.local_lift.specs.LiftedByLive.{among}
use Rattle.local_lift.specs.CodeNames.{names}
use Rattle.local_lift.specs.CodePlan.{turn_steps, turn_own}
use Rattle.local_lift.specs.CodeRows.{Matrix}
use Rattle.local_lift.proofs.lifting.row_before_loop.Goals as goal

pub returns : goal.returns
returns c =
    let bs = c.args.locals.now in
    IfOk-weaker c.spread.result _ _
    (λ r h gs e a ts. h bs (turn_steps (names bs) a) (turn_own (names bs) gs e a) (subst (λ (rs : List Row). Matrix bs (turn_steps (names bs) a) bs rs) (sym c.as_slice.ensures.value) ts.steps) ts.own
    (among (map string_bytes c.args.outputs.now)) c.in_ok-after.ensures) c.spread.ensures
