-- What is left has the same inside.
use Rattle.std.proofs.Common.{◌≡◌}
use Rattle.c_values.specs.CodeLone.{inside}
use Rattle.c_values.specs.CodeTypes.{type_of}
use Rattle.c_values.proofs.Lone.{layers}
use Rattle.c_values.proofs.lone_arrays.inside.Given as goal

abbrev pub invariant-inwards : goal.invariant-inwards
invariant-inwards l = inside (type_of l.inner) ≡ inside (type_of l.ty)

abbrev pub decreases-inwards : goal.decreases-inwards
decreases-inwards l = layers (type_of l.inner)
