-- All that was passed is the same.
use Rattle.std.proofs.Common.{◌≢◌, ◌↔◌, List, length}
use Rattle.expression_lang.specs.Expression.{Exp}
use Rattle.expression_lang.specs.Sort.{Scope}
use Rattle.ac_expr.specs.Fact.{Fact}
use Rattle.ac_expr.specs.Step.{OneOfThem, at_each}
use Rattle.ac_expr.specs.CodeApart.{IsAmong}
use Rattle.ac_expr.specs.CodeHeads.{children_in}
use Rattle.ac_expr.proofs.differences.changed_child.Given as goal

abbrev pub invariant-along : goal.invariant-along
invariant-along l = record {
  differ : children_in l.others ≢ children_in l.ones;
  same : (g : Scope) (fs : List Fact) →
      OneOfThem g (at_each fs (children_in l.left)) (children_in l.left) (children_in l.right)
      ↔ OneOfThem g (at_each fs (children_in l.ones)) (children_in l.ones) (children_in l.others);
  left : (x : Exp) → IsAmong x (children_in l.ones) → IsAmong x (children_in l.left);
  right : (x : Exp) → IsAmong x (children_in l.others) → IsAmong x (children_in l.right);
}

abbrev pub decreases-along : goal.decreases-along
decreases-along l = length (children_in l.ones)
