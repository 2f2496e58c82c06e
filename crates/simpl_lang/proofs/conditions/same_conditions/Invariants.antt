-- What is left of both is the same where they are.
use Rattle.std.proofs.Common.{◌≡◌, ◌↔◌, map, length}
use Rattle.simpl_lang.specs.CodeCommand.{condition_of}
use Rattle.simpl_lang.proofs.conditions.same_conditions.Given as goal

abbrev pub invariant-along : goal.invariant-along
invariant-along l = (map condition_of l.left ≡ map condition_of l.right) ↔ (map condition_of l.conditions ≡ map condition_of l.others)

abbrev pub decreases-along : goal.decreases-along
decreases-along l = length l.left
