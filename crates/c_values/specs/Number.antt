-- Whole numbers without limit, and the ranges of types (C99 5.2.4.2.1). Quotients truncate toward zero (C99 6.5.5p6); by
-- zero the quotient is 0 and the remainder the dividend. The code has 128 bits, and says where they don't do.
use Rattle.std.specs.Prelude.{ℕ, ◌-◌, ◌^◌, Bool, true, false, ◌&&◌, ℤ, pos, negsuc, neg_ℤ, ◌+ℤ◌, ◌-ℤ◌, ◌*ℤ◌, int_le, int_div, int_rem, if◌then◌else◌}
use Rattle.std.specs.Ordering.{int_eq}
use Rattle.c_values.specs.Types.{Target, IntType, width_of, is_signed}

-- the number, or 0 where it is negative
abbrev pub natural : ℤ → ℕ
natural (pos n) = n
natural (negsuc n) = 0

abbrev pub quotient : ℤ → ℤ → ℤ
quotient a b = if int_eq b (pos 0) then pos 0 else int_div a b

abbrev pub remainder : ℤ → ℤ → ℤ
remainder a b = if int_eq b (pos 0) then a else int_rem a b

pub data NumberOp : Type 0 where
  Add : NumberOp
  Sub : NumberOp
  Mul : NumberOp
  Div : NumberOp
  Mod : NumberOp
  Neg : NumberOp

-- Neg doesn't look at its second operand
abbrev pub number_op : NumberOp → ℤ → ℤ → ℤ
number_op Add a b = a +ℤ b
number_op Sub a b = a -ℤ b
number_op Mul a b = a *ℤ b
number_op Div a b = quotient a b
number_op Mod a b = remainder a b
number_op Neg a b = neg_ℤ a

abbrev pub is_between : ℤ → ℤ → ℤ → Bool
is_between low x high = int_le low x && int_le x high

-- the least and the greatest value of a number of bits
abbrev pub least : Bool → ℕ → ℤ
least true width = neg_ℤ (pos (2 ^ (width - 1)))
least false width = pos 0

abbrev pub greatest : Bool → ℕ → ℤ
greatest true width = pos (2 ^ (width - 1) - 1)
greatest false width = pos (2 ^ width - 1)

-- the same of an integer type
abbrev pub least_of : Target → IntType → ℤ
least_of t i = least (is_signed i) (width_of t i)

abbrev pub greatest_of : Target → IntType → ℤ
greatest_of t i = greatest (is_signed i) (width_of t i)

abbrev pub is_of_type : Target → IntType → ℤ → Bool
is_of_type t i n = is_between (least_of t i) n (greatest_of t i)
