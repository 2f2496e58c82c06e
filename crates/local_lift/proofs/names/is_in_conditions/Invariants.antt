-- What is left has the name where all have.
use Rattle.std.proofs.Common.{◌≡◌, map, length}
use Rattle.simpl_lang.specs.CodeCommand.{condition_of}
use Rattle.simpl_lang.specs.Names.{conditions_name}
use Rattle.local_lift.proofs.names.is_in_conditions.Given as goal

abbrev pub invariant-along : goal.invariant-along
invariant-along l = conditions_name l.name (map condition_of l.rest) ≡ conditions_name l.name (map condition_of l.conditions)

abbrev pub decreases-along : goal.decreases-along
decreases-along l = length l.rest
