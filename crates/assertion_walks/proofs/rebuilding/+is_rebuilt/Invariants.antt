-- What is left of both is made anew where both are, and among the children.
use Rattle.std.proofs.Common.{◌↔◌, length}
use Rattle.expression_lang.specs.Expression.{Exp}
use Rattle.expression_lang.specs.CodeExpression.{exp_of}
use Rattle.ac_expr.specs.Heads.{children}
use Rattle.ac_expr.specs.CodeApart.{IsAmong, size}
use Rattle.ac_expr.specs.CodeHeads.{children_in}
use Rattle.assertion_walks.specs.Rebuilt.{IsRebuilt, AreRebuilt}
use Rattle.assertion_walks.specs.CodeRebuilt.{parts_in}
use Rattle.assertion_walks.proofs.rebuilding.+is_rebuilt.Given as goal

abbrev pub invariant-along : goal.invariant-along
invariant-along g l = record {
  same : AreRebuilt (g.R.Remaking.Changes l.remaking) (children_in l.ones) (parts_in l.others)
      ↔ IsRebuilt (g.R.Remaking.Changes l.remaking) (exp_of l.e) (exp_of l.other);
  among : (y : Exp) → IsAmong y (children_in l.ones) → IsAmong y (children (exp_of l.e));
}

abbrev pub decreases-along : goal.decreases-along
decreases-along g l = length (children_in l.ones)

abbrev pub decreases-is_rebuilt : goal.decreases-is_rebuilt
decreases-is_rebuilt g l = size (exp_of l.e.now)
