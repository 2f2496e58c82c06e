-- The fronts put aside, around what is left, are the whole.
use Rattle.std.proofs.Common.{◌≡◌, ◌≤◌}
use Rattle.expression_lang.specs.declared.expression.Exp.{size-Exp}
use Rattle.expression_lang.specs.declared.paths.Path.{size-Path}
use Rattle.expression_lang.specs.CodeExpression.{exp_of, path_of}
use Rattle.expression_lang.specs.CodeShapeView.{with_fronts, with_steps}
use Rattle.expression_lang.proofs.+copy.Given as goal

abbrev pub invariant-expression::Exp::boxed_copy-along : goal.invariant-expression::Exp::boxed_copy-along
invariant-expression::Exp::boxed_copy-along l = record {
  same : with_fronts l.fronts.items (exp_of l.rest) ≡ exp_of l.self;
  smaller : size-Exp l.rest ≤ size-Exp l.self;
}

abbrev pub decreases-expression::Exp::boxed_copy-along : goal.decreases-expression::Exp::boxed_copy-along
decreases-expression::Exp::boxed_copy-along l = size-Exp l.rest

abbrev pub invariant-paths::Path::copy-along : goal.invariant-paths::Path::copy-along
invariant-paths::Path::copy-along l = record {
  same : with_steps l.fronts.items (path_of l.rest) ≡ path_of l.self;
  smaller : size-Path l.rest ≤ size-Path l.self;
}

abbrev pub decreases-paths::Path::copy-along : goal.decreases-paths::Path::copy-along
decreases-paths::Path::copy-along l = size-Path l.rest
