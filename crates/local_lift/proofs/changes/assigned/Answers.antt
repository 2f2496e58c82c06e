use Rattle.std.proofs.Common.{rules}
use Rattle.std.proofs.lemmas.Result.{IfOk-weaker}
use Rattle.local_lift.proofs.RowLaws.{assigned_there, assigned_nowhere}
use Rattle.local_lift.proofs.changes.assigned.Goals as goal

pub returns-then-has : goal.returns-then-has
returns-then-has c =
    IfOk-weaker c.either.result _ _
    (λ r e g n. assigned_there c.args.name.now c.args.locals.now g c.args.named.now.flags.items c.in_ok-kept.kept.flags.items c.args.row.now.flags.items r.flags.items (search rules) e c.in_ok-kept.ensures n)
    c.either.ensures

pub returns-else-has : goal.returns-else-has
returns-else-has c = λ g n. assigned_nowhere c.args.name.now c.args.locals.now g c.in_ok-kept.kept.flags.items c.args.row.now.flags.items (search rules) c.in_ok-kept.ensures
