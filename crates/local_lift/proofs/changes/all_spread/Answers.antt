use Rattle.std.proofs.Common.{rules, ◌≡◌, ◌++◌, ◌∷◌, []}
use Rattle.local_lift.specs.CodeNames.{names}
use Rattle.local_lift.specs.CodeRows.{spreading}
use Rattle.local_lift.proofs.RowLaws.{moves_more}
use Rattle.local_lift.proofs.changes.all_spread.Goals as goal

pub loop-row-preserved : goal.loop-row-preserved
loop-row-preserved c =
    let items : c.push.new.self.items ≡ c.loop-row.after.items ++ c.in_ok-spread.field-0 ∷ [] = search rules in
    λ bs leads g h n. moves_more bs (spreading (names bs) leads g) c.loop-row.yielded c.loop-row.after.items c.push.new.self.items c.in-Some.row c.in_ok-spread.field-0 items (c.loop-row.invariant bs leads g h n)
    (c.in_ok-spread.ensures bs leads g h n)
