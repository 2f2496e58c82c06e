-- The rest of the path leads on from the type that was reached. What is left of an `or` decides whether it is a truth value.
use Rattle.std.proofs.Common.{◌≡◌, ◌≤◌}
use Rattle.c_values.specs.Layout.{shape_of}
use Rattle.c_values.specs.CodeTypes.{type_of}
use Rattle.expression_lang.specs.declared.expression.Exp.{size-Exp}
use Rattle.expression_lang.specs.declared.paths.Path.{size-Path}
use Rattle.expression_lang.specs.Sort.{sort_of, is_truth, shape_along}
use Rattle.expression_lang.specs.CodeExpression.{exp_of, path_of}
use Rattle.expression_lang.specs.CodeSort.{scope_by}
use Rattle.expression_lang.proofs.sorts.+sorts.Given as goal

abbrev pub invariant-along-steps : goal.invariant-along-steps
invariant-along-steps g l = record {
  same : shape_along (scope_by l.l (g.N.Scope.scalars l.names) l.globals) (path_of l.rest) (shape_of l.l (type_of l.whole))
      ≡ shape_along (scope_by l.l (g.N.Scope.scalars l.names) l.globals) (path_of l.fn.path) (shape_of l.l (type_of l.fn.t));
  smaller : size-Path l.rest ≤ size-Path l.fn.path;
}

abbrev pub invariant-is_truth_value-operands : goal.invariant-is_truth_value-operands
invariant-is_truth_value-operands g l = record {
  same : is_truth (sort_of (scope_by l.l (g.N.Scope.scalars l.names) l.globals) (exp_of l.rest)) ≡ is_truth (sort_of (scope_by l.l (g.N.Scope.scalars l.names) l.globals) (exp_of l.fn.e));
  smaller : size-Exp l.rest ≤ size-Exp l.fn.e;
}
