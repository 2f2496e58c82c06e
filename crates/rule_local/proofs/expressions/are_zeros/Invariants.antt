-- What is left is the zeros of the locals that are left where all are.
use Rattle.std.proofs.Common.{◌≡◌, ◌↔◌, map, length, string_bytes, Some}
use Rattle.expression_lang.specs.CodeExpression.{exp_of}
use Rattle.expression_lang.specs.CodeSignature.{binder_of}
use Rattle.rule_local.specs.Table.{zeros}
use Rattle.rule_local.proofs.expressions.are_zeros.Given as goal

abbrev pub invariant-along : goal.invariant-along
invariant-along l =
    (zeros (map binder_of l.locals) (map string_bytes l.left) ≡ Some (map exp_of l.right)) ↔ (zeros (map binder_of l.locals) (map string_bytes l.names) ≡ Some (map exp_of l.exps))

abbrev pub decreases-along : goal.decreases-along
decreases-along l = length l.left
