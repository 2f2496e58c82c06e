use Rattle.std.proofs.Common.{rules, ◌≡◌, ◌++◌, ◌∷◌, []}
use Rattle.local_lift.specs.CodeRows.{adding}
use Rattle.local_lift.proofs.RowLaws.{moves_more, added_row}
use Rattle.local_lift.proofs.changes.all_added.Goals as goal

pub loop-row-preserved : goal.loop-row-preserved
loop-row-preserved c =
    let items : c.push.new.self.items ≡ c.loop-row.after.items ++ c.in_ok-either.field-0 ∷ [] = search rules in
    λ bs g n. moves_more bs (adding g) c.loop-row.yielded c.loop-row.after.items c.push.new.self.items c.in-Some.row c.in_ok-either.field-0 items (c.loop-row.invariant bs g n)
    (added_row bs g c.args.named.now.flags.items c.in-Some.row.flags.items c.in_ok-either.field-0.flags.items c.in_ok-either.ensures n)
