-- Rows before a command without parts.
use Rattle.std.proofs.Common.{rules, ◌≡◌, map, string_bytes, refl, sym, subst, IfOk}
use Rattle.std.specs.Option.{option_map}
use Rattle.std.proofs.lemmas.Result.{IfOk-weaker}
use Rattle.c_values.specs.CodeTypes.{type_of}
use Rattle.expression_lang.specs.CodeExpression.{exp_of, path_of}
use Rattle.simpl_lang.specs.Command as plain
use Rattle.simpl_lang.specs.CodeCommand.{simpl_of}
use Rattle.local_lift.specs.Live.{live}
use Rattle.local_lift.specs.CodeNames.{names}
use Rattle.local_lift.specs.CodeRows.{Moves}
use Rattle.local_lift.proofs.RowLaws.{same_moves}
use Rattle.local_lift.proofs.liveness.lived_alone.Goals as goal

pub returns-in-Set : goal.returns-in-Set
returns-in-Set c =
    let e : simpl_of c.args.c.now ≡ plain.Set c.as_str.result.now (exp_of c.in-Set.value) = search rules in
    subst (λ (a : plain.Simpl). IfOk c.before_set.result (λ v. Moves c.args.locals.now (live (names c.args.locals.now) a) c.args.rows.items v.items)) (sym e) c.before_set.ensures

pub returns-in-SetGlobal : goal.returns-in-SetGlobal
returns-in-SetGlobal c =
    let e : simpl_of c.args.c.now ≡ plain.SetGlobal (string_bytes c.in-SetGlobal.field-0) (path_of c.in-SetGlobal.path) (exp_of c.in-SetGlobal.value) = search rules in
    IfOk-weaker c.before_write.result _ _
    (λ v h. subst (λ (a : plain.Simpl). Moves c.args.locals.now (live (names c.args.locals.now) a) c.args.rows.items v.items) (sym e) (h (string_bytes c.in-SetGlobal.field-0))) c.before_write.ensures

pub returns-in-Store : goal.returns-in-Store
returns-in-Store c =
    let e : simpl_of c.args.c.now ≡ plain.Store (type_of c.in-Store.field-0) (exp_of c.in-Store.pointer) (path_of c.in-Store.path) (exp_of c.in-Store.value) = search rules in
    IfOk-weaker c.before_store.result _ _
    (λ v h. subst (λ (a : plain.Simpl). Moves c.args.locals.now (live (names c.args.locals.now) a) c.args.rows.items v.items) (sym e) (h (type_of c.in-Store.field-0))) c.before_store.ensures

pub returns-in-Pick : goal.returns-in-Pick
returns-in-Pick c =
    let e : simpl_of c.args.c.now ≡ plain.Pick c.as_str-in-Pick.result.now = search rules in
    subst (λ (a : plain.Simpl). IfOk c.all_removed.result (λ v. Moves c.args.locals.now (live (names c.args.locals.now) a) c.args.rows.items v.items)) (sym e) c.all_removed.ensures

pub returns-in-Call : goal.returns-in-Call
returns-in-Call c =
    let e : simpl_of c.args.c.now ≡ plain.Call (option_map string_bytes c.in-Call.target) (string_bytes c.in-Call.field-1) (map exp_of c.deref.result.now) = search rules in
    IfOk-weaker c.before_call.result _ _
    (λ v h. subst (λ (a : plain.Simpl). Moves c.args.locals.now (live (names c.args.locals.now) a) c.args.rows.items v.items) (sym e) (h (string_bytes c.in-Call.field-1))) c.before_call.ensures

pub returns-in-Skip : goal.returns-in-Skip
returns-in-Skip c =
    let e : simpl_of c.args.c.now ≡ plain.Skip = search rules in
    subst (λ (a : plain.Simpl). Moves c.args.locals.now (live (names c.args.locals.now) a) c.args.rows.items c.args.rows.items) (sym e) (same_moves c.args.locals.now c.args.rows.items c.args.rows.items refl)

pub returns-in-Throw : goal.returns-in-Throw
returns-in-Throw c =
    let e : simpl_of c.args.c.now ≡ plain.Throw = search rules in
    subst (λ (a : plain.Simpl). Moves c.args.locals.now (live (names c.args.locals.now) a) c.args.rows.items c.args.rows.items) (sym e) (same_moves c.args.locals.now c.args.rows.items c.args.rows.items refl)
