-- What is left of both is the same where they are.
use Rattle.std.proofs.Common.{◌≡◌, ◌↔◌, map, length}
use Rattle.expression_lang.specs.CodeExpression.{kind_of}
use Rattle.rule_word.proofs.instances.same_kinds.Given as goal

abbrev pub invariant-along : goal.invariant-along
invariant-along l = (map kind_of l.left ≡ map kind_of l.right) ↔ (map kind_of l.kinds ≡ map kind_of l.others)

abbrev pub decreases-along : goal.decreases-along
decreases-along l = length l.left
