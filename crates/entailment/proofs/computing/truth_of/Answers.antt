-- What is computed is the constant.
use Rattle.std.proofs.Common.{rules, ◌≡◌, Option, None, ◌∙◌}
use Rattle.expression_lang.specs.CodeExpression.{exp_of}
use Rattle.expression_lang.specs.Expression.{Exp}
use Rattle.ac_expr.specs.CodeConstants.{computed, as_constant}
use Rattle.entailment.proofs.TruthsComputed.{truth_there, no_truth}
use Rattle.entailment.proofs.computing.truth_of.Goals as goal

pub returns-in_err-constant : goal.returns-in_err-constant
returns-in_err-constant c =
    let none : ◌≡◌ {A = Option Exp} None (as_constant (computed c.args.l.now (exp_of c.args.e.now))) = search rules in
    c.from_residual.ensures ∙ no_truth (computed c.args.l.now (exp_of c.args.e.now)) none

pub returns : goal.returns
returns c =
    c.literal_truth.ensures ∙ truth_there (computed c.args.l.now (exp_of c.args.e.now)) (exp_of c.in_ok-constant.constant) c.in_ok-constant.ensures
