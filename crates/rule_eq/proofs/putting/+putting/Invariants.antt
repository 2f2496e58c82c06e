-- What is left of both is as it is to be where both are, and no larger.
use Rattle.std.proofs.Common.{◌≡◌, ◌↔◌, ◌≤◌, ◌+◌, ◌*◌, length}
use Rattle.expression_lang.specs.Expression.{Exp}
use Rattle.expression_lang.specs.CodeExpression.{exp_of}
use Rattle.ac_expr.specs.Substituted.{substituted}
use Rattle.ac_expr.specs.CodeApart.{IsAmong, size}
use Rattle.ac_expr.specs.CodeHeads.{children_in}
use Rattle.program_facts.specs.Substituted.{each_substituted}
use Rattle.rule_eq.proofs.PutParts.{sizes}
use Rattle.rule_eq.proofs.putting.+putting.Given as goal

abbrev pub invariant-is_put-down : goal.invariant-is_put-down
invariant-is_put-down l = record {
  same : (exp_of l.right ≡ substituted l.name (exp_of l.value) (exp_of l.left))
      ↔ (exp_of l.initial.right ≡ substituted l.name (exp_of l.value) (exp_of l.e));
  smaller : size (exp_of l.left) ≤ size (exp_of l.e);
}

abbrev pub decreases-is_put-down : goal.decreases-is_put-down
decreases-is_put-down l = size (exp_of l.left)

abbrev pub invariant-look-along : goal.invariant-look-along
invariant-look-along l = record {
  same : (children_in l.others ≡ each_substituted l.name (exp_of l.value) (children_in l.ones))
      ↔ (children_in l.right ≡ each_substituted l.name (exp_of l.value) (children_in l.left));
  among : (y : Exp) → IsAmong y (children_in l.ones) → IsAmong y (children_in l.left);
  smaller : sizes (children_in l.ones) ≤ sizes (children_in l.left);
}

abbrev pub decreases-look-along : goal.decreases-look-along
decreases-look-along l = length (children_in l.ones)

abbrev pub decreases-is_put : goal.decreases-is_put
decreases-is_put l = 2 * size (exp_of l.e.now)

abbrev pub decreases-look : goal.decreases-look
decreases-look l = 2 * sizes (children_in l.left) + 1
