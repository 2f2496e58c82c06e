-- What is left of both is the same where they are, and no larger.
use Rattle.std.proofs.Common.{◌≡◌, ◌≤◌, ◌↔◌}
use Rattle.expression_lang.specs.declared.expression.Exp.{size-Exp}
use Rattle.expression_lang.specs.declared.paths.Path.{size-Path}
use Rattle.expression_lang.specs.CodeExpression.{exp_of, path_of}
use Rattle.expression_lang.proofs.+comparison.Given as goal

abbrev pub invariant-expression::Exp::same-along : goal.invariant-expression::Exp::same-along
invariant-expression::Exp::same-along l = record {
  same : (exp_of l.left ≡ exp_of l.right) ↔ (exp_of l.self ≡ exp_of l.other);
  smaller : size-Exp l.left ≤ size-Exp l.self;
}

abbrev pub decreases-expression::Exp::same-along : goal.decreases-expression::Exp::same-along
decreases-expression::Exp::same-along l = size-Exp l.left

abbrev pub invariant-paths::Path::same-along : goal.invariant-paths::Path::same-along
invariant-paths::Path::same-along l = record {
  same : (path_of l.left ≡ path_of l.right) ↔ (path_of l.self ≡ path_of l.other);
  smaller : size-Path l.left ≤ size-Path l.self;
}
