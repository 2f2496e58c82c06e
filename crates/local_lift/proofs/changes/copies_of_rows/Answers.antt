use Rattle.std.proofs.Common.{rules, ◌≡◌, ◌++◌, ◌∷◌, [], ap, sym, ◌∙◌}
use Rattle.local_lift.specs.CodeRows.{flags_of}
use Rattle.local_lift.proofs.RowLaws.{flags_more}
use Rattle.local_lift.proofs.changes.copies_of_rows.Goals as goal

pub along-preserved : goal.along-preserved
along-preserved c =
    let items : c.push.new.self.items ≡ c.along.copies.items ++ c.in_ok-copy_of_row.field-0 ∷ [] = search rules in
    let rest : c.along.rest.now ≡ c.in-Some.row.now ∷ c.in-Some.others.now = search rules in
    flags_more c.along.copies.items c.push.new.self.items c.in_ok-copy_of_row.field-0 c.in-Some.row.now.flags.items (flags_of c.in-Some.others.now) items c.in_ok-copy_of_row.ensures
    ∙ ap (λ rs. flags_of c.along.copies.items ++ flags_of rs) (sym rest) ∙ c.along.invariant
