-- The expressions that are left are the same where both are.
use Rattle.std.proofs.Common.{◌≡◌}
use Rattle.expression_lang.specs.declared.expression.Exp.{size-Exp}
use Rattle.expression_lang.specs.CodeExpression.{exp_of}
use Rattle.ac_expr.proofs.first_sides.are_as_long.Given as goal

abbrev pub invariant-down : goal.invariant-down
invariant-down l = exp_of l.a ≡ exp_of l.b → exp_of l.left ≡ exp_of l.right

abbrev pub decreases-down : goal.decreases-down
decreases-down l = size-Exp l.left
