-- The value so far in what is left is the value in the whole.
use Rattle.std.proofs.Common.{◌≡◌}
use Rattle.c_values.specs.CodeLone.{around}
use Rattle.c_values.specs.CodeTypes.{type_of}
use Rattle.c_values.specs.CodeValue.{value_of}
use Rattle.c_values.proofs.Lone.{layers}
use Rattle.c_values.proofs.lone_arrays.around.Given as goal

abbrev pub invariant-outwards : goal.invariant-outwards
invariant-outwards l = around (type_of l.outer) (value_of l.whole) ≡ around (type_of l.ty) (value_of l.fn.value)

abbrev pub decreases-outwards : goal.decreases-outwards
decreases-outwards l = layers (type_of l.outer)
