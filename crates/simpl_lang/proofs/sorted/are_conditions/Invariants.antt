-- Those so far are tests.
use Rattle.std.proofs.Common.{◌≡◌, map, drop}
use Rattle.simpl_lang.specs.Sorted.{are_conditions}
use Rattle.simpl_lang.specs.CodeCommand.{condition_of}
use Rattle.simpl_lang.specs.CodeForms.{scope_in}
use Rattle.simpl_lang.proofs.sorted.are_conditions.Given as goal

abbrev pub invariant-conditions : goal.invariant-conditions
invariant-conditions l =
    are_conditions (scope_in l.u l.names) (map condition_of (drop l.condition-index l.conditions)) ≡ are_conditions (scope_in l.u l.names) (map condition_of l.conditions)
