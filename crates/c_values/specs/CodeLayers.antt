-- Pointers and arrays around a last type.
use Rattle.std.specs.Prelude.{List, [], ◌∷◌}
use Rattle.c_values.specs.Types.{CType, Integer, Void, Ptr, Struct, Array}
use Rattle.c_values.specs.declared.type_copies.Layer as L

abbrev pub IsLast : CType → Type 0
IsLast (Integer i) = Unit {0}
IsLast Void = Unit {0}
IsLast (Struct x) = Unit {0}
IsLast (Ptr t) = ⊥
IsLast (Array t n) = ⊥

abbrev pub with_layer : CType → L.Layer → CType
with_layer t L.TheVariants.Pointer = Ptr t
with_layer t (L.TheVariants.Array n) = Array t n

-- the outermost layer first
abbrev pub with_layers : List L.Layer → CType → CType
with_layers [] t = t
with_layers (x ∷ xs) t = with_layer (with_layers xs t) x
