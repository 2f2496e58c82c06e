use Rattle.std.proofs.Common.{map, string_bytes}
use Rattle.expression_lang.specs.CodeExpression.{exp_of}
use Rattle.simpl_lang.specs.CodeCommand.{simpl_of}
use Rattle.monad_lang.specs.CodeProgram.{mon_of}
use Rattle.rule_local.specs.Table.{is_needed}
use Rattle.rule_local.proofs.Lost.{none_lost}
use Rattle.rule_local.proofs.carried.carries_needed.Goals as goal

pub returns : goal.returns
returns c = none_lost (map string_bytes c.args.handed_on.now) (is_needed (exp_of c.args.guard.now) (exp_of c.args.turn.now) (mon_of c.args.body.now) (map string_bytes c.args.outputs.now)) (simpl_of c.args.c.now) c.assigns_some.result c.assigns_some.ensures
