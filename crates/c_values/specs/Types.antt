-- The target and the types of the C subset (C99 6.2.5, 6.2.6.2; the widths are those of the two data models ILP32 and LP64).
-- `char` is unsigned, and an enum type is `int`.
use Rattle.std.specs.Prelude.{ℕ, ◌==◌, Bool, true, false, ◌&&◌}
use Rattle.c_values.specs.Name.{Name, same_name}

pub data Target : Type 0 where
  Ilp32 : Target
  Lp64 : Target

pub data IntType : Type 0 where
  Char : IntType
  SChar : IntType
  UChar : IntType
  Short : IntType
  UShort : IntType
  Int : IntType
  UInt : IntType
  Long : IntType
  ULong : IntType
  LLong : IntType
  ULLong : IntType

pub data CType : Type 0 where
  Integer : IntType → CType
  Void : CType
  Ptr : CType → CType
  Struct : Name → CType
  Array : CType → ℕ → CType

-- bits of a pointer; an address is below 2 to this power
abbrev pub address_width : Target → ℕ
address_width Ilp32 = 32
address_width Lp64 = 64

-- bits of an integer type
abbrev pub width_of : Target → IntType → ℕ
width_of t Char = 8
width_of t SChar = 8
width_of t UChar = 8
width_of t Short = 16
width_of t UShort = 16
width_of t Int = 32
width_of t UInt = 32
width_of t Long = address_width t
width_of t ULong = address_width t
width_of t LLong = 64
width_of t ULLong = 64

abbrev pub is_signed : IntType → Bool
is_signed Char = false
is_signed SChar = true
is_signed UChar = false
is_signed Short = true
is_signed UShort = false
is_signed Int = true
is_signed UInt = false
is_signed Long = true
is_signed ULong = false
is_signed LLong = true
is_signed ULLong = false

-- the type of `sizeof`
abbrev pub size_type : Target → IntType
size_type Ilp32 = UInt
size_type Lp64 = ULong

-- a number for each, to compare them by
abbrev pub number_of : IntType → ℕ
number_of Char = 0
number_of SChar = 1
number_of UChar = 2
number_of Short = 3
number_of UShort = 4
number_of Int = 5
number_of UInt = 6
number_of Long = 7
number_of ULong = 8
number_of LLong = 9
number_of ULLong = 10

abbrev pub same_int_type : IntType → IntType → Bool
same_int_type i j = number_of i == number_of j

abbrev pub same_type : CType → CType → Bool
same_type (Integer i) (Integer j) = same_int_type i j
same_type Void Void = true
same_type (Ptr t) (Ptr u) = same_type t u
same_type (Struct x) (Struct y) = same_name x y
same_type (Array t m) (Array u n) = same_type t u && (m == n)
same_type _ _ = false
