-- One condition more under the premise.
use Rattle.std.proofs.Common.{map, ap, ◌∙◌}
use Rattle.c_lang.specs.CodeTyped.{expr_of}
use Rattle.expression_lang.specs.Expression.{Imp}
use Rattle.expression_lang.specs.CodeExpression.{exp_of}
use Rattle.simpl_lang.specs.CodeCommand.{condition_of, guard_kind_of}
use Rattle.generation.specs.Guards.{when}
use Rattle.simpl_expressions.specs.CodeTests.{where_is}
use Rattle.simpl_expressions.proofs.Premises.{put_under}
use Rattle.simpl_expressions.proofs.guards.add_under.Goals as goal

pub loop-guard-preserved : goal.loop-guard-preserved
loop-guard-preserved c =
    put_under (where_is c.args.l.now (expr_of c.args.condition.now) c.args.holds) (map condition_of c.args.out.now.items) c.loop-guard.out.items c.push.new.self.items c.loop-guard.yielded c.in-Some.guard
    (record { kind = c.in-Some.guard.kind; exp = c.in_ok-exp.exp }) c.loop-guard.invariant c.in_ok-push.ensures.items
    (ap (when (guard_kind_of c.in-Some.guard.kind)) (c.in_ok-exp.ensures ∙ ap (λ e. Imp e (exp_of c.in-Some.guard.exp)) c.in_ok-premise.ensures))
