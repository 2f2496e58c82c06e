-- One layer more around a type.
use Rattle.std.proofs.Common.{◌≡◌, List, [], ◌∷◌, ◌++◌, refl, ap}
use Rattle.c_values.specs.Types.{CType}
use Rattle.c_values.specs.declared.type_copies.Layer as L
use Rattle.c_values.specs.CodeLayers.{with_layer, with_layers}

pub with_layers_push : (xs : List L.Layer) (x : L.Layer) (t : CType) → with_layers (xs ++ x ∷ []) t ≡ with_layers xs (with_layer t x)
with_layers_push [] x t = refl
with_layers_push (y ∷ ys) x t = ap (λ u. with_layer u y) (with_layers_push ys x t)
