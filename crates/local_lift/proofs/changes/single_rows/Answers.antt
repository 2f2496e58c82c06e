use Rattle.std.proofs.Common.{rules, ◌≡◌, ◌++◌, ◌∷◌, [], List, subst, sym}
use Rattle.expression_lang.specs.declared.signatures.Binder as B
use Rattle.c_values.specs.Name.{same_name}
use Rattle.local_lift.specs.declared.rows.Row.{Row}
use Rattle.local_lift.specs.Live.{none}
use Rattle.local_lift.specs.CodeRows.{MatrixAnd}
use Rattle.local_lift.proofs.RowLaws.{rows_more}
use Rattle.local_lift.proofs.changes.single_rows.Goals as goal

pub along-preserved : goal.along-preserved
along-preserved c =
    let items : c.push.new.self.items ≡ c.along.rows.items ++ c.in_ok-row_of.field-0 ∷ [] = search rules in
    let rest : c.along.rest.now ≡ c.in-Some.local.now ∷ c.in-Some.others.now = search rules in
    λ others h. rows_more (λ (rs : List Row). MatrixAnd c.args.locals.now same_name none c.args.locals.now rs) c.along.rows.items c.push.new.self.items c.in_ok-row_of.field-0 others items
    (c.along.invariant (c.in_ok-row_of.field-0 ∷ others) (subst (λ (ls : List B.Binder). MatrixAnd c.args.locals.now same_name none ls (c.in_ok-row_of.field-0 ∷ others)) (sym rest) (search rules, h)))
