-- What is copied so far.
use Rattle.std.proofs.Common.{◌≡◌, map, take}
use Rattle.simpl_lang.specs.CodeCommand.{condition_of}
use Rattle.simpl_lang.proofs.conditions.copy_of_conditions.Given as goal

abbrev pub invariant-loop-condition : goal.invariant-loop-condition
invariant-loop-condition l = map condition_of l.copies.items ≡ map condition_of (take l.condition-index l.conditions)
