-- The fronts put aside, around what becomes of what is left, are what becomes of the whole.
use Rattle.std.proofs.Common.{◌≡◌, ◌≤◌}
use Rattle.expression_lang.specs.declared.expression.Exp.{size-Exp}
use Rattle.expression_lang.specs.declared.paths.Path.{size-Path}
use Rattle.expression_lang.specs.CodeExpression.{exp_of, path_of}
use Rattle.expression_lang.specs.CodeShapeView.{with_fronts, with_steps}
use Rattle.expression_lang.specs.Changed.{changed, changed_path}
use Rattle.expression_lang.proofs.+changed.Given as goal

abbrev pub invariant-expression::Exp::changed-along : goal.invariant-expression::Exp::changed-along
invariant-expression::Exp::changed-along g l = record {
  same : with_fronts l.fronts.items (changed (g.C.Change.instead l.change) (exp_of l.rest)) ≡ changed (g.C.Change.instead l.change) (exp_of l.self);
  smaller : size-Exp l.rest ≤ size-Exp l.self;
}

abbrev pub decreases-expression::Exp::changed-along : goal.decreases-expression::Exp::changed-along
decreases-expression::Exp::changed-along g l = size-Exp l.rest

abbrev pub invariant-paths::Path::changed-along : goal.invariant-paths::Path::changed-along
invariant-paths::Path::changed-along g l = record {
  same : with_steps l.fronts.items (changed_path (g.C.Change.instead l.change) (path_of l.rest)) ≡ changed_path (g.C.Change.instead l.change) (path_of l.self);
  smaller : size-Path l.rest ≤ size-Path l.self;
}

abbrev pub decreases-paths::Path::changed-along : goal.decreases-paths::Path::changed-along
decreases-paths::Path::changed-along g l = size-Path l.rest
