-- What is left gives the claim at once exactly where the whole does.
use Rattle.std.proofs.Common.{◌↔◌, ◌≤◌}
use Rattle.expression_lang.specs.declared.expression.Exp.{size-Exp}
use Rattle.expression_lang.specs.CodeExpression.{exp_of}
use Rattle.ac_expr.specs.Fact.{stands_for}
use Rattle.ac_expr.specs.Known.{GivesAtOnce}
use Rattle.ac_expr.specs.CodeFacts.{fact_of}
use Rattle.ac_expr.proofs.claims.+exp_gives_at_once.Given as goal

abbrev pub invariant-along : goal.invariant-along
invariant-along l = record {
  same : GivesAtOnce (exp_of l.rest) (stands_for (fact_of l.claim)) ↔ GivesAtOnce (exp_of l.e) (stands_for (fact_of l.claim));
  smaller : size-Exp l.rest ≤ size-Exp l.e;
}
