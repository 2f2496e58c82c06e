-- By the numbers that both are.
use Rattle.std.proofs.Common.{rules, ◌≡◌, Option, Some, None, ℤ, ap, ◌∙◌}
use Rattle.expression_lang.specs.CodeExpression.{exp_of}
use Rattle.ac_expr.specs.CodeConstants.{computed, number_of}
use Rattle.entailment.proofs.TruthsComputed.{order_there, no_first, no_second}
use Rattle.entailment.proofs.computing.truth_of_order.Goals as goal

pub returns-in_err-low : goal.returns-in_err-low
returns-in_err-low c =
    let none : ◌≡◌ {A = Option ℤ} None (number_of (computed c.args.l.now (exp_of c.args.a.now))) = search rules in
    c.from_residual.ensures ∙ no_first (computed c.args.l.now (exp_of c.args.a.now)) (computed c.args.l.now (exp_of c.args.b.now)) none

pub returns-in_err-high : goal.returns-in_err-high
returns-in_err-high c =
    let none : ◌≡◌ {A = Option ℤ} None (number_of (computed c.args.l.now (exp_of c.args.b.now))) = search rules in
    c.from_residual-in_err-high.ensures ∙ no_second (computed c.args.l.now (exp_of c.args.a.now)) (computed c.args.l.now (exp_of c.args.b.now)) none

pub returns : goal.returns
returns c =
    ap (λ b. Some b) c.is_at_most.ensures
    ∙ order_there (computed c.args.l.now (exp_of c.args.a.now)) (computed c.args.l.now (exp_of c.args.b.now)) c.in_ok-low.low c.in_ok-high.high
    c.in_ok-low.ensures c.in_ok-high.ensures
