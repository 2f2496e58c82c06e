-- Conversions to a pointer to a type that isn't void, from another type, null pointer constants apart.
use Rattle.std.specs.Prelude.{Bool, true, false, not, ◌&&◌, ◌||◌}
use Rattle.c_values.specs.Types.{CType, Void, Ptr, same_type}
use Rattle.c_lang.specs.Typed as C

-- a pointer to a type that isn't void
abbrev pub is_non_void_pointer : CType → Bool
is_non_void_pointer (Ptr Void) = false
is_non_void_pointer (Ptr t) = true
is_non_void_pointer _ = false

-- a conversion to a pointer to a non-void type from another type
abbrev pub casts_to : CType → CType → Bool
casts_to to from = is_non_void_pointer to && not (same_type to from)

abbrev mutual
  pub has_cast : C.Expr → Bool
  has_cast (C.Constant i n) = false
  has_cast (C.Local x t) = false
  has_cast (C.Value p) = place_has_cast p
  has_cast (C.Convert t a) = casts_to t (C.type_of a) || has_cast a
  has_cast (C.ConvertNull t a) = has_cast a
  has_cast (C.Negate i a) = has_cast a
  has_cast (C.Complement i a) = has_cast a
  has_cast (C.Compute op i a b) = has_cast a || has_cast b
  has_cast (C.Combine op i a b) = has_cast a || has_cast b
  has_cast (C.Shift d i a b) = has_cast a || has_cast b
  has_cast (C.Compare r i a b) = has_cast a || has_cast b
  has_cast (C.Equate q t a b) = has_cast a || has_cast b
  has_cast (C.Not a) = has_cast a
  has_cast (C.And a b) = has_cast a || has_cast b
  has_cast (C.Or a b) = has_cast a || has_cast b
  has_cast (C.Choose t e a b) = has_cast e || has_cast a || has_cast b
  has_cast (C.Move s t p a) = has_cast p || has_cast a
  has_cast (C.MoveBy t a p) = has_cast a || has_cast p
  has_cast (C.Address p t) = place_has_cast p
  has_cast (C.Decay p t) = place_has_cast p

  pub place_has_cast : C.Place → Bool
  place_has_cast (C.Through t p path u) = has_cast p || path_has_cast path
  place_has_cast (C.InGlobal x path u) = path_has_cast path

  pub path_has_cast : C.Path → Bool
  path_has_cast C.Here = false
  path_has_cast (C.Member k path) = path_has_cast path
  path_has_cast (C.Element n e path) = has_cast e || path_has_cast path
