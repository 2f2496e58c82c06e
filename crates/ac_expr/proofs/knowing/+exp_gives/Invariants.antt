-- What is left gives the claim exactly where the whole does.
use Rattle.std.proofs.Common.{◌↔◌, ◌≤◌}
use Rattle.expression_lang.specs.declared.expression.Exp.{size-Exp}
use Rattle.expression_lang.specs.CodeExpression.{exp_of}
use Rattle.ac_expr.specs.Fact.{stands_for}
use Rattle.ac_expr.specs.Known.{Gives}
use Rattle.ac_expr.specs.CodeFacts.{fact_of}
use Rattle.ac_expr.specs.CodeChain.{facts_of}
use Rattle.ac_expr.proofs.knowing.+exp_gives.Given as goal

abbrev pub invariant-along : goal.invariant-along
invariant-along g l = record {
  same : Gives (facts_of g.S.Sequence.parts l.facts) (exp_of l.rest) (stands_for (fact_of l.claim)) ↔ Gives (facts_of g.S.Sequence.parts l.facts) (exp_of l.e) (stands_for (fact_of l.claim));
  smaller : size-Exp l.rest ≤ size-Exp l.e;
}
