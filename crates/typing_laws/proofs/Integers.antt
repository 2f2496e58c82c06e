-- Values of integer types: those of constants, and those that a conversion gives.
use Rattle.std.proofs.Common.{◌≡◌, ℕ, ◌-◌, ◌^◌, ◌%◌, ◌<◌, ◌≤◌, Bool, true, false, cond, leb, ℤ, pos, negsuc, arith}
use Rattle.std.proofs.lemmas.Int.{ints}
use Rattle.std.proofs.lemmas.Nat.{pow_pos, mod_below}
use Rattle.c_values.specs.Types.{Target, Ilp32, Lp64, IntType, Int, Integer, size_type, width_of, is_signed}
use Rattle.c_values.specs.Number.{is_of_type, is_between, least, greatest}
use Rattle.c_values.specs.Layout.{Layout, largest_size}
use Rattle.c_values.specs.Word.{word, signed, unsigned}
use Rattle.c_values.proofs.WordValues.{IsSigned, low, high, halves, signed_is}
use Rattle.c_values.proofs.Widths.{some_width}
use Rattle.typing_rules.specs.Constant.{number_at}

pub small_is_int : (t : Target) (n : ℕ) → n < 2 ^ 31 → is_of_type t Int (pos n) ≡ true
small_is_int t n h = grind arith

pub size_fits : (t : Target) (n : ℕ) → leb n largest_size ≡ true → is_of_type t (size_type t) (pos n) ≡ true
size_fits Ilp32 n h = grind arith
size_fits Lp64 n h = grind arith

rest_below_less : (a d : ℕ) → 0 < d → d - 1 - a % d < d
rest_below_less a d h = omega arith

bits_fit : (width : ℕ) (n : ℤ) → (word width n).bits < 2 ^ width
bits_fit width (pos a) = mod_below a (2 ^ width) (pow_pos width)
bits_fit width (negsuc a) = rest_below_less a (2 ^ width) (pow_pos width)

signed_fits : (width bits : ℕ) (n : ℤ) → 1 ≤ width → IsSigned width bits n → is_between (least true width) n (greatest true width) ≡ true
signed_fits width bits _ h (low b) = let p = pow_pos (width - 1) in grind (arith, ints)
signed_fits width bits _ h (high {c} b e) = let p = pow_pos (width - 1) in let q = halves width h in grind (arith, ints)

unsigned_fits : (width bits : ℕ) → bits < 2 ^ width → is_between (least false width) (pos bits) (greatest false width) ≡ true
unsigned_fits width bits h = grind arith

by_sign : (s : Bool) (width : ℕ) (n : ℤ) → 1 ≤ width →
    is_between (least s width) (cond s (signed (word width n)) (unsigned (word width n))) (greatest s width) ≡ true
by_sign true width n h = signed_fits width (word width n).bits (signed (word width n)) h (signed_is width (word width n).bits (bits_fit width n))
by_sign false width n h = unsigned_fits width (word width n).bits (bits_fit width n)

-- a conversion gives a value of its type
pub converted_fits : (l : Layout) (i : IntType) (n : ℤ) → is_of_type l.target i (number_at l (Integer i) n) ≡ true
converted_fits l i n = by_sign (is_signed i) (width_of l.target i) n (some_width l.target i)
