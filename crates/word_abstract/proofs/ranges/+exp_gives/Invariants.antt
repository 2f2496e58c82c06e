-- What is left gives it where the whole does.
use Rattle.std.proofs.Common.{◌≡◌, ◌≤◌}
use Rattle.expression_lang.specs.declared.expression.Exp.{size-Exp}
use Rattle.expression_lang.specs.CodeExpression.{exp_of}
use Rattle.ac_expr.specs.SameExp.{same_exp}
use Rattle.rule_word.specs.Bases.{gives_at_once}
use Rattle.word_abstract.proofs.ranges.+exp_gives.Given as goal

abbrev pub invariant-along : goal.invariant-along
invariant-along l = record {
  same : gives_at_once same_exp (exp_of l.rest) (exp_of l.e) ≡ gives_at_once same_exp (exp_of l.fact) (exp_of l.e);
  smaller : size-Exp l.rest ≤ size-Exp l.fact;
}

abbrev pub decreases-along : goal.decreases-along
decreases-along l = size-Exp l.rest
