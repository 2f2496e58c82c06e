-- What is left of both is the names where both are.
use Rattle.std.proofs.Common.{◌≡◌, ◌↔◌, map, length, string_bytes}
use Rattle.expression_lang.specs.Expression.{Var}
use Rattle.expression_lang.specs.CodeExpression.{exp_of}
use Rattle.rule_eq.proofs.instances.are_vars.Given as goal

abbrev pub invariant-along : goal.invariant-along
invariant-along l =
    (map exp_of l.right ≡ map (λ x. Var x) (map string_bytes l.left))
    ↔ (map exp_of l.values ≡ map (λ x. Var x) (map string_bytes l.names))

abbrev pub decreases-along : goal.decreases-along
decreases-along l = length l.left
