-- What is left of both is apart where they are, and smaller.
use Rattle.std.proofs.Common.{◌≢◌, ◌≤◌, ◌↔◌}
use Rattle.expression_lang.specs.CodeExpression.{exp_of}
use Rattle.expression_lang.specs.CodeSort.{scope_by}
use Rattle.ac_expr.specs.Step.{OneStepApart}
use Rattle.ac_expr.specs.CodeApart.{IsSomeSorted, size}
use Rattle.ac_expr.specs.CodeChain.{facts_of}
use Rattle.ac_expr.proofs.differences.+apart.Given as goal

abbrev pub invariant-down : goal.invariant-down
invariant-down g l = record {
  differ : exp_of l.right ≢ exp_of l.left;
  same : OneStepApart (scope_by l.l (g.N.Scope.scalars l.names) l.globals) (facts_of g.S.Sequence.parts l.facts) (exp_of l.left) (exp_of l.right)
      ↔ OneStepApart (scope_by l.l (g.N.Scope.scalars l.names) l.globals) (facts_of g.S.Sequence.parts l.facts) (exp_of l.a) (exp_of l.b);
  sorted_left : IsSomeSorted (scope_by l.l (g.N.Scope.scalars l.names) l.globals) (exp_of l.left);
  sorted_right : IsSomeSorted (scope_by l.l (g.N.Scope.scalars l.names) l.globals) (exp_of l.right);
  smaller : size (exp_of l.left) ≤ size (exp_of l.a);
}

abbrev pub decreases-down : goal.decreases-down
decreases-down g l = size (exp_of l.left)

abbrev pub decreases-are_apart : goal.decreases-are_apart
decreases-are_apart g l = size (exp_of l.a.now)
