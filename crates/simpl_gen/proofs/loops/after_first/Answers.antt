-- One condition more for later turns.
use Rattle.std.proofs.Common.{ap, ◌∙◌}
use Rattle.expression_lang.specs.Expression.{Imp, Not, Var}
use Rattle.expression_lang.specs.CodeExpression.{exp_of}
use Rattle.simpl_lang.specs.CodeCommand.{guard_kind_of}
use Rattle.generation.specs.Guards.{when}
use Rattle.simpl_expressions.proofs.Premises.{put_later}
use Rattle.simpl_gen.proofs.loops.after_first.Goals as goal

pub loop-guard-preserved : goal.loop-guard-preserved
loop-guard-preserved c =
    put_later c.args.n c.loop-guard.later.items c.push.new.self.items c.loop-guard.yielded c.in-Some.guard
    (record { kind = c.in-Some.guard.kind; exp = c.in_ok-exp.exp }) c.loop-guard.invariant c.in_ok-push.ensures.items
    (ap (when (guard_kind_of c.in-Some.guard.kind)) (c.in_ok-exp.ensures ∙ ap (λ e. Imp e (exp_of c.in-Some.guard.exp)) (c.in_ok-premise.ensures ∙ ap Not c.in_ok-is_first.ensures ∙ ap (λ x. Not (Var x)) c.in_ok-first_local.ensures)))
