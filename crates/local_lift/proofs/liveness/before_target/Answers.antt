use Rattle.std.proofs.Common.{rules, ◌≡◌, Option, Some, None, string_bytes, refl, sym, subst}
use Rattle.std.specs.Option.{option_map}
use Rattle.std.proofs.lemmas.Result.{IfOk-weaker}
use Rattle.c_values.specs.Name.{Name}
use Rattle.local_lift.specs.CodeRows.{Moves, without_target}
use Rattle.local_lift.proofs.RowLaws.{same_moves}
use Rattle.local_lift.proofs.liveness.before_target.Goals as goal

pub returns-in-Some : goal.returns-in-Some
returns-in-Some c =
    let e : option_map string_bytes c.args.target.now ≡ Some c.as_str.result.now = search rules in
    IfOk-weaker c.all_removed.result _ _ (λ r h. subst (λ (x : Option Name). Moves c.args.locals.now (without_target x) c.args.rows.items r.items) (sym e) h) c.all_removed.ensures

pub returns-in-None : goal.returns-in-None
returns-in-None c =
    let e : option_map string_bytes c.args.target.now ≡ None = search rules in
    subst (λ (x : Option Name). Moves c.args.locals.now (without_target x) c.args.rows.items c.args.rows.items) (sym e) (same_moves c.args.locals.now c.args.rows.items c.args.rows.items refl)
