-- What is left is the names that are left where all are.
use Rattle.std.proofs.Common.{◌≡◌, ◌↔◌, map, length, string_bytes}
use Rattle.expression_lang.specs.CodeExpression.{exp_of}
use Rattle.rule_local.specs.Table.{vars}
use Rattle.rule_local.proofs.expressions.are_vars.Given as goal

abbrev pub invariant-along : goal.invariant-along
invariant-along l = (map exp_of l.left ≡ vars (map string_bytes l.right)) ↔ (map exp_of l.exps ≡ vars (map string_bytes l.names))

abbrev pub decreases-along : goal.decreases-along
decreases-along l = length l.left
