use Rattle.std.proofs.Common.{rules, ◌≡◌, ◌++◌, ◌∷◌, []}
use Rattle.local_lift.specs.CodeNames.{names}
use Rattle.local_lift.specs.CodeRows.{assigning}
use Rattle.local_lift.proofs.RowLaws.{moves_more}
use Rattle.local_lift.proofs.changes.all_assigned.Goals as goal

pub loop-row-preserved : goal.loop-row-preserved
loop-row-preserved c =
    let items : c.push.new.self.items ≡ c.loop-row.after.items ++ c.in_ok-assigned.field-0 ∷ [] = search rules in
    λ g n. moves_more c.args.locals.now (assigning c.args.name.now (names c.args.locals.now) g) c.loop-row.yielded c.loop-row.after.items c.push.new.self.items c.in-Some.row c.in_ok-assigned.field-0 items (c.loop-row.invariant g n)
    (c.in_ok-assigned.ensures g n)
