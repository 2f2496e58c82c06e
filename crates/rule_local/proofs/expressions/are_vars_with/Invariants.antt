-- What is left is the names that are left where all are, with the value for the one that takes it.
use Rattle.std.proofs.Common.{◌≡◌, ◌↔◌, map, length, string_bytes}
use Rattle.expression_lang.specs.CodeExpression.{exp_of}
use Rattle.rule_local.specs.Table.{vars_with}
use Rattle.rule_local.proofs.expressions.are_vars_with.Given as goal

abbrev pub invariant-along : goal.invariant-along
invariant-along l =
    (map exp_of l.left ≡ vars_with l.taking (exp_of l.value) (map string_bytes l.right)) ↔ (map exp_of l.exps ≡ vars_with l.taking (exp_of l.value) (map string_bytes l.names))

abbrev pub decreases-along : goal.decreases-along
decreases-along l = length l.left
