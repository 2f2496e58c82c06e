-- The type that an outermost form is of.
use Rattle.c_values.specs.CodeTypes.{int_type_of, type_of}
use Rattle.c_values.specs.Types.{CType, Integer, Void, Ptr, Struct, Array}
use Rattle.typing_rules.specs.declared.types.Form as F
use Rattle.typing_rules.specs.declared.types.Form.TheVariants as V

abbrev pub form_type : F.Form → CType
form_type (V.Integer i) = Integer (int_type_of i)
form_type V.Void = Void
form_type (V.Pointer t) = Ptr (type_of t.now)
form_type (V.Struct x) = Struct x.now
form_type (V.Array t n) = Array (type_of t.now) n
