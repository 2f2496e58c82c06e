-- What is left of the first is asked unless thrown where the first is, of what is left of the second.
use Rattle.std.proofs.Common.{◌≡◌, ◌↔◌, map, length}
use Rattle.simpl_lang.specs.CodeCommand.{condition_of}
use Rattle.rule_exn.specs.Table.{unless_thrown}
use Rattle.rule_exn.proofs.flags.are_conditions_unless_thrown.Given as goal

abbrev pub invariant-along : goal.invariant-along
invariant-along l = (map condition_of l.left ≡ unless_thrown (map condition_of l.right)) ↔ (map condition_of l.conditions ≡ unless_thrown (map condition_of l.others))

abbrev pub decreases-along : goal.decreases-along
decreases-along l = length l.left
