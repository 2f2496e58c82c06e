-- What is made so far, and the conditions that are left before it, are all.
use Rattle.std.proofs.Common.{◌≡◌, length, map}
use Rattle.expression_lang.specs.CodeExpression.{exp_of}
use Rattle.simpl_lang.specs.CodeCommand.{condition_of}
use Rattle.rule_local.specs.Table.{conj}
use Rattle.local_lift.specs.CodeLists.{conj_before}
use Rattle.local_lift.proofs.lists.conjunction.Given as goal

abbrev pub invariant-back : goal.invariant-back
invariant-back l = conj_before (map condition_of l.rest) (exp_of l.whole.value) ≡ conj (map condition_of l.conditions)

abbrev pub decreases-back : goal.decreases-back
decreases-back l = length l.rest
