-- What the code's targets and types stand for.
use Rattle.std.specs.Prelude.{string_bytes}
use Rattle.c_values.specs.declared.types.Target as T
use Rattle.c_values.specs.declared.types.IntType as I
use Rattle.c_values.specs.declared.types.CType as C
use Rattle.c_values.specs.Types.{Target, Ilp32, Lp64, IntType, Char, SChar, UChar, Short, UShort, Int, UInt, Long, ULong, LLong, ULLong, CType, Integer, Void, Ptr, Struct, Array}

abbrev pub target_of : T.Target → Target
target_of T.TheVariants.Ilp32 = Ilp32
target_of T.TheVariants.Lp64 = Lp64

abbrev pub int_type_of : I.IntType → IntType
int_type_of I.TheVariants.Char = Char
int_type_of I.TheVariants.SChar = SChar
int_type_of I.TheVariants.UChar = UChar
int_type_of I.TheVariants.Short = Short
int_type_of I.TheVariants.UShort = UShort
int_type_of I.TheVariants.Int = Int
int_type_of I.TheVariants.UInt = UInt
int_type_of I.TheVariants.Long = Long
int_type_of I.TheVariants.ULong = ULong
int_type_of I.TheVariants.LLong = LLong
int_type_of I.TheVariants.ULLong = ULLong

abbrev pub type_of : C.CType → CType
type_of (C.Int i) = Integer (int_type_of i)
type_of C.Void = Void
type_of (C.Ptr' p t) = Ptr (type_of t)
type_of (C.Struct x) = Struct (string_bytes x)
type_of (C.Array' p t n) = Array (type_of t) n
