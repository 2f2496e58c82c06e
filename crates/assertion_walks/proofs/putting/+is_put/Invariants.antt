-- What is left of both is as it is to be where both are, and among the children.
use Rattle.std.proofs.Common.{◌≡◌, ◌↔◌, length}
use Rattle.expression_lang.specs.Expression.{Exp}
use Rattle.expression_lang.specs.Changed.{changed}
use Rattle.expression_lang.specs.CodeExpression.{exp_of}
use Rattle.ac_expr.specs.Heads.{children}
use Rattle.ac_expr.specs.CodeApart.{IsAmong, size}
use Rattle.ac_expr.specs.CodeHeads.{children_in}
use Rattle.assertion_walks.specs.CodePut.{in_places_by}
use Rattle.assertion_walks.proofs.ChangedParts.{each_changed}
use Rattle.assertion_walks.proofs.putting.+is_put.Given as goal

abbrev pub invariant-along : goal.invariant-along
invariant-along g l = record {
  same : (children_in l.others ≡ each_changed (in_places_by (g.V.Values.value_of l.values)) (children_in l.ones))
      ↔ (exp_of l.other ≡ changed (in_places_by (g.V.Values.value_of l.values)) (exp_of l.whole));
  among : (y : Exp) → IsAmong y (children_in l.ones) → IsAmong y (children (exp_of l.whole));
}

abbrev pub decreases-along : goal.decreases-along
decreases-along g l = length (children_in l.ones)

abbrev pub decreases-is_put : goal.decreases-is_put
decreases-is_put g l = size (exp_of l.whole.now)
