use Rattle.std.proofs.Common.{rules, ◌≡◌, ◌++◌, ◌∷◌, []}
use Rattle.local_lift.specs.CodeRows.{removing}
use Rattle.local_lift.proofs.RowLaws.{moves_more, removed_row}
use Rattle.local_lift.proofs.changes.all_removed.Goals as goal

pub loop-row-preserved : goal.loop-row-preserved
loop-row-preserved c =
    let items : c.push.new.self.items ≡ c.loop-row.after.items ++ c.in_ok-without.field-0 ∷ [] = search rules in
    moves_more c.args.locals.now (removing c.args.name.now) c.loop-row.yielded c.loop-row.after.items c.push.new.self.items c.in-Some.row c.in_ok-without.field-0 items c.loop-row.invariant
    (removed_row c.args.locals.now c.args.name.now c.in-Some.row.flags.items c.in_ok-without.field-0.flags.items c.in_ok-without.ensures)
