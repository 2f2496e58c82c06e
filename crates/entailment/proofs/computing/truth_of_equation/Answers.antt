-- The constants are the same where the values are.
use Rattle.std.proofs.Common.{rules, ◌≡◌, Option, None, ◌∙◌}
use Rattle.expression_lang.specs.CodeExpression.{exp_of}
use Rattle.expression_lang.specs.Expression.{Exp}
use Rattle.ac_expr.specs.CodeConstants.{computed, as_constant}
use Rattle.entailment.proofs.TruthsComputed.{equal_there, first_unequal, second_unequal}
use Rattle.entailment.proofs.computing.truth_of_equation.Goals as goal

pub returns-in_err-first : goal.returns-in_err-first
returns-in_err-first c =
    let none : ◌≡◌ {A = Option Exp} None (as_constant (computed c.args.l.now (exp_of c.args.a.now))) = search rules in
    c.from_residual.ensures ∙ first_unequal c.args.l.now (exp_of c.args.a.now) (exp_of c.args.b.now) none

pub returns-in_err-second : goal.returns-in_err-second
returns-in_err-second c =
    let none : ◌≡◌ {A = Option Exp} None (as_constant (computed c.args.l.now (exp_of c.args.b.now))) = search rules in
    c.from_residual-in_err-second.ensures ∙ second_unequal c.args.l.now (exp_of c.args.a.now) (exp_of c.args.b.now) none

pub returns : goal.returns
returns c =
    equal_there (computed c.args.l.now (exp_of c.args.a.now)) (computed c.args.l.now (exp_of c.args.b.now)) (exp_of c.in_ok-first.first)
    (exp_of c.in_ok-second.second) c.same.result c.in_ok-first.ensures c.in_ok-second.ensures c.same.ensures
