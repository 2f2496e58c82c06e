use Rattle.std.proofs.Common.{rules, ◌≡◌, ◌++◌, ◌∷◌, [], ap₂, sym, ◌∙◌}
use Rattle.local_lift.specs.CodeRows.{flags_of, either_row, each_either}
use Rattle.local_lift.proofs.RowLaws.{flags_more}
use Rattle.local_lift.proofs.changes.all_either.Goals as goal

pub along-preserved : goal.along-preserved
along-preserved c =
    let items : c.push.new.self.items ≡ c.along.after.items ++ c.in_ok-either.field-0 ∷ [] = search rules in
    let left : c.along.left.now ≡ c.in-Some.first.now ∷ c.in-Some.others.now = search rules in
    let right : c.along.right.now ≡ c.in-Some-split_first.second.now ∷ c.in-Some-split_first.rest.now = search rules in
    flags_more c.along.after.items c.push.new.self.items c.in_ok-either.field-0 (either_row c.in-Some.first.now.flags.items c.in-Some-split_first.second.now.flags.items)
    (each_either c.in-Some.others.now c.in-Some-split_first.rest.now) items c.in_ok-either.ensures
    ∙ ap₂ (λ ls rs. flags_of c.along.after.items ++ each_either ls rs) (sym left) (sym right) ∙ c.along.invariant
