-- There is a pointer to an array in what is left exactly where there is one in the whole.
use Rattle.std.proofs.Common.{◌≡◌}
use Rattle.c_values.specs.CodeTypes.{type_of}
use Rattle.typing_rules.specs.Declarations.{points_to_array}
use Rattle.typing_rules.proofs.types.points_to_array.Given as goal

abbrev pub invariant-loop-outer : goal.invariant-loop-outer
invariant-loop-outer l = points_to_array (type_of l.outer) ≡ points_to_array (type_of l.t)
