-- What is left passes where the whole does, and is no larger.
use Rattle.std.proofs.Common.{◌≡◌, ◌≤◌}
use Rattle.expression_lang.specs.declared.expression.Exp.{size-Exp}
use Rattle.expression_lang.specs.declared.paths.Path.{size-Path}
use Rattle.expression_lang.specs.CodeExpression.{exp_of, path_of}
use Rattle.expression_lang.specs.Form.{has, path_has}
use Rattle.expression_lang.proofs.+any.Given as goal

abbrev pub invariant-expression::Exp::any-along : goal.invariant-expression::Exp::any-along
invariant-expression::Exp::any-along g l = record {
  same : has (g.T.Test.holds l.test) (exp_of l.rest) ≡ has (g.T.Test.holds l.test) (exp_of l.self);
  smaller : size-Exp l.rest ≤ size-Exp l.self;
}

abbrev pub decreases-expression::Exp::any-along : goal.decreases-expression::Exp::any-along
decreases-expression::Exp::any-along g l = size-Exp l.rest

abbrev pub invariant-paths::Path::any-along : goal.invariant-paths::Path::any-along
invariant-paths::Path::any-along g l = record {
  same : path_has (g.T.Test.holds l.test) (path_of l.rest) ≡ path_has (g.T.Test.holds l.test) (path_of l.self);
  smaller : size-Path l.rest ≤ size-Path l.self;
}
