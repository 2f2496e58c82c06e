-- What is left of a path leads where the path does.
use Rattle.std.proofs.Common.{◌≡◌, ◌≤◌, ◌<◌, true}
use Rattle.c_values.specs.CodeTypes.{type_of}
use Rattle.c_values.specs.Layout.{shape_of, space, is_object}
use Rattle.expression_lang.specs.declared.expression.Exp.{size-Exp}
use Rattle.expression_lang.specs.declared.paths.Path.{size-Path}
use Rattle.expression_lang.specs.CodeExpression.{path_of}
use Rattle.ac_expr.specs.CodeConstants.{computed_at}
use Rattle.ac_expr.proofs.constants.+computed.Given as goal

abbrev pub invariant-along-steps : goal.invariant-along-steps
invariant-along-steps l = record {
  object : is_object l.l (type_of l.whole) ≡ true;
  address : l.address < space l.l;
  same : computed_at l.l (path_of l.rest) (shape_of l.l (type_of l.whole)) l.address
      ≡ computed_at l.l (path_of l.path) (shape_of l.l (type_of l.t)) l.initial.address;
  smaller : size-Path l.rest ≤ size-Path l.path;
}

abbrev pub decreases-along : goal.decreases-along
decreases-along l = size-Path l.path.now

abbrev pub decreases-computed : goal.decreases-computed
decreases-computed l = size-Exp l.e.now
