-- Words: bits of a width, with an unsigned and a signed value, and their operations (C99 6.2.6.2, 6.3.1.3, 6.5.3 to
-- 6.5.12). All are total, and by arithmetic on whole numbers without limit; the code has words of 64 bits.
use Rattle.std.specs.Prelude.{◌≡◌, ℕ, ◌-◌, ◌^◌, ◌<◌, Bool, true, false, ◌&&◌, ℤ, pos, negsuc, neg_ℤ, ◌+ℤ◌, ◌-ℤ◌, ◌*ℤ◌, int_lt, int_le, nat_lt, bit_and, bit_or, bit_xor, if◌then◌else◌}
use Rattle.std.specs.Int.{int_div_euclid, int_rem_euclid}
use Rattle.c_values.specs.Number.{natural, quotient, remainder}

-- a number of bits, and a number below 2 to that power
pub record Word : Type 0 where
  pub width : ℕ
  pub bits : ℕ

-- a word of this width
pub record IsWord (width : ℕ) (w : Word) : Type 0 where
  pub has_width : w.width ≡ width
  pub fits : w.bits < 2 ^ width

abbrev pub unsigned : Word → ℤ
unsigned w = pos w.bits

-- less 2^width where the highest bit is set
abbrev pub signed : Word → ℤ
signed w = if nat_lt w.bits (2 ^ (w.width - 1)) then pos w.bits else pos w.bits -ℤ pos (2 ^ w.width)

-- a whole number modulo 2^width
abbrev pub word : ℕ → ℤ → Word
word width n = record { width = width; bits = natural (int_rem_euclid n (pos (2 ^ width))) }

pub data WordOp : Type 0 where
  Wadd : WordOp
  Wsub : WordOp
  Wmul : WordOp
  Wand : WordOp
  Wor : WordOp
  Wxor : WordOp
  Wudiv : WordOp
  Wumod : WordOp
  Wsdiv : WordOp
  Wsmod : WordOp

pub data ShiftOp : Type 0 where
  Wshl : ShiftOp
  Wushr : ShiftOp
  Wsshr : ShiftOp

pub data UnaryOp : Type 0 where
  Wneg : UnaryOp
  Wnot : UnaryOp

pub data WordTest : Type 0 where
  Wult : WordTest
  Wule : WordTest
  Wslt : WordTest
  Wsle : WordTest

-- modulo 2^width, or bit by bit; a quotient by zero is 0, and a remainder by zero the dividend
abbrev pub word_op : WordOp → Word → Word → Word
word_op Wadd a b = word a.width (unsigned a +ℤ unsigned b)
word_op Wsub a b = word a.width (unsigned a -ℤ unsigned b)
word_op Wmul a b = word a.width (unsigned a *ℤ unsigned b)
word_op Wand a b = word a.width (pos (bit_and a.bits b.bits))
word_op Wor a b = word a.width (pos (bit_or a.bits b.bits))
word_op Wxor a b = word a.width (pos (bit_xor a.bits b.bits))
word_op Wudiv a b = word a.width (quotient (unsigned a) (unsigned b))
word_op Wumod a b = word a.width (remainder (unsigned a) (unsigned b))
word_op Wsdiv a b = word a.width (quotient (signed a) (signed b))
word_op Wsmod a b = word a.width (remainder (signed a) (signed b))

-- from 0 to width - 1
abbrev pub is_shift : ℕ → ℤ → Bool
is_shift width n = int_le (pos 0) n && int_lt n (pos width)

abbrev pub power_of_two : ℤ → ℤ
power_of_two (pos n) = pos (2 ^ n)
power_of_two (negsuc n) = pos 0

-- by a number of bits; outside of the width no bit stays, or, of a signed value, its sign alone
abbrev pub word_shift : ShiftOp → Word → ℤ → Word
word_shift Wshl a n = if is_shift a.width n then word a.width (unsigned a *ℤ power_of_two n) else word a.width (pos 0)
word_shift Wushr a n = if is_shift a.width n then word a.width (int_div_euclid (unsigned a) (power_of_two n)) else word a.width (pos 0)
word_shift Wsshr a n = if is_shift a.width n then word a.width (int_div_euclid (signed a) (power_of_two n)) else word a.width (if int_lt (signed a) (pos 0) then negsuc 0 else pos 0)

abbrev pub word_unary : UnaryOp → Word → Word
word_unary Wneg a = word a.width (neg_ℤ (unsigned a))
word_unary Wnot a = word a.width (pos (2 ^ a.width - 1) -ℤ unsigned a)

abbrev pub word_test : WordTest → Word → Word → Bool
word_test Wult a b = int_lt (unsigned a) (unsigned b)
word_test Wule a b = int_le (unsigned a) (unsigned b)
word_test Wslt a b = int_lt (signed a) (signed b)
word_test Wsle a b = int_le (signed a) (signed b)

-- to another width, by the signed or the unsigned value
abbrev pub cast : Bool → ℕ → Word → Word
cast true width a = word width (signed a)
cast false width a = word width (unsigned a)
