use Rattle.std.proofs.Common.{map, string_bytes}
use Rattle.std.specs.Option.{option_map}
use Rattle.expression_lang.specs.CodeExpression.{exp_of}
use Rattle.monad_lang.specs.Names.{is_in_some}
use Rattle.local_lift.specs.CodeRows.{adding, without_target}
use Rattle.local_lift.proofs.RowLaws.{moves_then}
use Rattle.local_lift.proofs.liveness.before_call.Goals as goal

pub returns : goal.returns
returns c =
    λ f. moves_then c.args.locals.now (without_target (option_map string_bytes c.args.target.now)) (adding (λ y. is_in_some y (map exp_of c.args.arguments.now))) c.args.rows.items c.in_ok-called.called.items c.in_ok-before.before.items
    c.in_ok-called.ensures (c.in_ok-before.ensures c.args.locals.now (λ y. is_in_some y (map exp_of c.args.arguments.now)) c.in_ok-named.ensures)
