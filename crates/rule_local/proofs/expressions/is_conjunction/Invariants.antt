-- What is left is the conditions that are left as one where the whole is all of them.
use Rattle.std.proofs.Common.{◌≡◌, ◌↔◌, map, length}
use Rattle.expression_lang.specs.CodeExpression.{exp_of}
use Rattle.simpl_lang.specs.CodeCommand.{condition_of}
use Rattle.rule_local.specs.Table.{conj}
use Rattle.rule_local.proofs.expressions.is_conjunction.Given as goal

abbrev pub invariant-along : goal.invariant-along
invariant-along l = (exp_of l.e ≡ conj (map condition_of l.rest)) ↔ (exp_of l.initial.e ≡ conj (map condition_of l.conditions))

abbrev pub decreases-along : goal.decreases-along
decreases-along l = length l.rest
