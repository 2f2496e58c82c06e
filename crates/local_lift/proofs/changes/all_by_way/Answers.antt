use Rattle.std.proofs.Common.{rules, ◌≡◌, ◌++◌, ◌∷◌, []}
use Rattle.local_lift.specs.CodeRows.{by_way}
use Rattle.local_lift.proofs.RowLaws.{moves_more}
use Rattle.local_lift.proofs.changes.all_by_way.Goals as goal

pub loop-row-preserved : goal.loop-row-preserved
loop-row-preserved c =
    let items : c.push.new.self.items ≡ c.loop-row.after.items ++ c.in_ok-with_way.field-0 ∷ [] = search rules in
    λ bs x w i n. moves_more bs (by_way x w) c.loop-row.yielded c.loop-row.after.items c.push.new.self.items c.in-Some.row c.in_ok-with_way.field-0 items (c.loop-row.invariant bs x w i n) (c.in_ok-with_way.ensures bs x w i n)
