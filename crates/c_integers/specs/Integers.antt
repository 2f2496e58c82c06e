-- Integer types among each other (C99 6.3.1.1, 6.3.1.8, 6.4.4.1): ranks, promotion, the usual conversions, and the types of
-- numbers.
use Rattle.std.specs.Prelude.{ℕ, nat_lt, nat_le, Bool, true, false, map, Option, find, pos, if◌then◌else◌}
use Rattle.c_values.specs.Types.{Target, IntType, Char, SChar, UChar, Short, UShort, Int, UInt, Long, ULong, LLong, ULLong, width_of, is_signed}
use Rattle.c_values.specs.Number.{is_of_type}
use Rattle.c_lex.specs.Number as lex

abbrev pub rank : IntType → ℕ
rank Char = 1
rank SChar = 1
rank UChar = 1
rank Short = 2
rank UShort = 2
rank Int = 3
rank UInt = 3
rank Long = 4
rank ULong = 4
rank LLong = 5
rank ULLong = 5

-- an int holds all values of the types of lower rank
abbrev pub promoted : IntType → IntType
promoted i = if nat_lt (rank i) 3 then Int else i

-- the unsigned type of the same rank
abbrev pub unsigned_of : IntType → IntType
unsigned_of Int = UInt
unsigned_of Long = ULong
unsigned_of LLong = ULLong
unsigned_of i = i

-- a signed type and an unsigned one, both promoted
abbrev pub mixed : Target → IntType → IntType → IntType
mixed t i u =
    if nat_le (rank i) (rank u) then u
    else (if nat_lt (width_of t u) (width_of t i) then i else unsigned_of i)

-- the one of higher rank
abbrev pub higher : IntType → IntType → IntType
higher i j = if nat_lt (rank i) (rank j) then j else i

-- two promoted types, by whether each is signed
abbrev pub common : Target → Bool → Bool → IntType → IntType → IntType
common t true false i j = mixed t i j
common t false true i j = mixed t j i
common t _ _ i j = higher i j

-- the usual arithmetic conversions
abbrev pub usual : Target → IntType → IntType → IntType
usual t i j = common t (is_signed (promoted i)) (is_signed (promoted j)) (promoted i) (promoted j)

abbrev pub integer_type : lex.IntegerType → IntType
integer_type lex.int = Int
integer_type lex.uint = UInt
integer_type lex.long = Long
integer_type lex.ulong = ULong
integer_type lex.llong = LLong
integer_type lex.ullong = ULLong

-- the first type of a number's list that holds it: whether it is decimal, whether it has a `u`, and how many `l` it has
abbrev pub number_type : Target → ℕ → Bool → Bool → ℕ → Option IntType
number_type t n decimal unsigned longs =
    find (λ i. is_of_type t i (pos n)) (map integer_type (lex.types_of decimal unsigned longs))
