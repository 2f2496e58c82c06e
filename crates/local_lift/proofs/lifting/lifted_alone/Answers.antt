use Rattle.std.proofs.Common.{rules, ◌≡◌, List, map, string_bytes, sym, ap, ◌∙◌}
use Rattle.std.specs.Option.{option_map}
use Rattle.std.proofs.lemmas.Result.{IfOk-weaker}
use Rattle.c_values.specs.Name.{Name}
use Rattle.expression_lang.specs.CodeExpression.{exp_of}
use Rattle.expression_lang.specs.CodeSignature.{binder_of}
use Rattle.simpl_lang.specs.Command as plain
use Rattle.simpl_lang.specs.CodeCommand.{simpl_of}
use Rattle.local_lift.specs.LiftedByLive.{by_live}
use Rattle.local_lift.proofs.lifting.lifted_alone.Goals as goal

pub returns-in-Call : goal.returns-in-Call
returns-in-Call c =
    let e : simpl_of c.args.c.now ≡ plain.Call (option_map string_bytes c.in-Call.target) (string_bytes c.in-Call.function) (map exp_of c.deref.result.now) = search rules in
    let vs : List Name = map string_bytes c.args.outputs.now in
    IfOk-weaker c.called.result _ _ (λ l h. h (map binder_of c.args.locals.now) ∙ ap (λ (a : plain.Simpl). by_live (map binder_of c.args.locals.now) a vs) (sym e)) c.called.ensures
