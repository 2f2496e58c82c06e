-- Whether a shape has a part of a type, as a search.
use Rattle.std.specs.Prelude.{nat_lt, Bool, false, ◌&&◌, ◌||◌, List, [], ◌∷◌}
use Rattle.c_values.specs.Types.{CType, Struct, same_type}
use Rattle.c_values.specs.Layout.{Shape, Incomplete, Scalar, Record, Row, Fields, no_fields, field, Member}

abbrev mutual
  pub has_part : Shape → CType → Bool
  has_part Incomplete t = false
  has_part (Scalar u width) t = same_type u t
  has_part (Record x n align fs) t = same_type (Struct x) t || fields_have fs t
  has_part (Row e n) t = nat_lt 0 n && has_part e t

  pub fields_have : Fields → CType → Bool
  fields_have no_fields t = false
  fields_have (field at s fs) t = has_part s t || fields_have fs t

abbrev pub members_have : (CType → Shape) → List Member → CType → Bool
members_have shape [] t = false
members_have shape (m ∷ ms) t = has_part (shape m.type) t || members_have shape ms t
