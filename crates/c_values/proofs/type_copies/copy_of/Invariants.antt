-- The layers put aside, around what is left, are the type.
use Rattle.std.proofs.Common.{◌≡◌, vec_len}
use Rattle.c_values.specs.CodeTypes.{type_of}
use Rattle.c_values.specs.CodeLayers.{with_layers}
use Rattle.c_values.proofs.type_copies.copy_of.Given as goal

abbrev pub invariant-down : goal.invariant-down
invariant-down l = with_layers l.layers.items (type_of l.inner) ≡ type_of l.fn.t

abbrev pub invariant-up : goal.invariant-up
invariant-up l = with_layers l.layers.items (type_of l.copy) ≡ type_of l.fn.t

abbrev pub decreases-up : goal.decreases-up
decreases-up l = vec_len l.layers
