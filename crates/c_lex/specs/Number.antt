-- Numbers (C99 6.4.4.1): base, digits, suffix, and the types that a suffix allows.
use Rattle.std.specs.Prelude.{ℕ, zero, suc, ◌-◌, ◌^◌, Bool, true, false, ◌||◌, ◌&&◌, ◌==◌, nat_le, if◌then◌else◌, List, [], ◌∷◌, take, drop, slice_index, Option, Some, None, option_and_then}
use Rattle.std.specs.List.{list_any, prefix_len}
use Rattle.std.specs.Char.{is_digit}
use Rattle.std.specs.Str.Parse.{digits_value}
use Rattle.c_lex.specs.Lexeme.{Kind, number}

-- the types that a number may have
pub data IntegerType : Type 0 where
  int : IntegerType
  uint : IntegerType
  long : IntegerType
  ulong : IntegerType
  llong : IntegerType
  ullong : IntegerType

-- long has 32 bits, or 64
pub data Target : Type 0 where
  ilp32 : Target
  lp64 : Target

abbrev pub greatest : Target → IntegerType → ℕ
greatest target int = 2 ^ 31 - 1
greatest target uint = 2 ^ 32 - 1
greatest ilp32 long = 2 ^ 31 - 1
greatest ilp32 ulong = 2 ^ 32 - 1
greatest lp64 long = 2 ^ 63 - 1
greatest lp64 ulong = 2 ^ 64 - 1
greatest target llong = 2 ^ 63 - 1
greatest target ullong = 2 ^ 64 - 1

-- The types that a number is tried at, in order: whether it is decimal, whether its suffix has a `u`, and how many `l` it has.
abbrev pub types_of : Bool → Bool → ℕ → List IntegerType
types_of true false zero = int ∷ long ∷ llong ∷ []
types_of true false (suc zero) = long ∷ llong ∷ []
types_of true false (suc (suc longs)) = llong ∷ []
types_of false false zero = int ∷ uint ∷ long ∷ ulong ∷ llong ∷ ullong ∷ []
types_of false false (suc zero) = long ∷ ulong ∷ llong ∷ ullong ∷ []
types_of false false (suc (suc longs)) = llong ∷ ullong ∷ []
types_of decimal true zero = uint ∷ ulong ∷ ullong ∷ []
types_of decimal true (suc zero) = ulong ∷ ullong ∷ []
types_of decimal true (suc (suc longs)) = ullong ∷ []

-- some type of the list holds the value
abbrev pub has_type : Target → Bool → Bool → ℕ → ℕ → Bool
has_type target decimal unsigned longs value = list_any (λ t. nat_le value (greatest target t)) (types_of decimal unsigned longs)

-- `u` or `U`
abbrev pub is_u : ℕ → Bool
is_u b = b == 117 || b == 85

-- `l` or `L`
abbrev pub is_l : ℕ → Bool
is_l b = b == 108 || b == 76

-- Whether a suffix has a `u`, and how many `l` it has: these in either order, and both `l` in one case.
abbrev pub suffix_of : List ℕ → Option (Bool × ℕ)
suffix_of [] = Some (false, 0)
suffix_of (a ∷ []) = if is_u a then Some (true, 0) else if is_l a then Some (false, 1) else None
suffix_of (a ∷ b ∷ []) = if is_l a && a == b then Some (false, 2) else if (is_u a && is_l b) || (is_l a && is_u b) then Some (true, 1) else None
suffix_of (a ∷ b ∷ c ∷ []) = if (is_u a && is_l b && b == c) || (is_l a && a == b && is_u c) then Some (true, 2) else None
suffix_of (a ∷ b ∷ c ∷ d ∷ rest) = None

-- The number, where a type of its list holds it. Both targets hold the same (`targets_agree`).
abbrev pub typed : ℕ → Bool → Bool × ℕ → Option Kind
typed value decimal suffix = if has_type lp64 decimal suffix.0 suffix.1 value then Some (number value decimal suffix.0 suffix.1) else None

-- digits of the base, one at least, and then a suffix
unfoldable pub written : ℕ → List ℕ → Option Kind
written base text =
    let n = prefix_len (λ b. is_digit b base) text in
    if n == 0 then None else option_and_then (typed (digits_value base (take n text)) (base == 10)) (suffix_of (drop n text))

-- `x` or `X`
abbrev pub is_x : ℕ → Bool
is_x b = b == 120 || b == 88

-- the number that the bytes write: hexadecimal after `0x`, octal with another leading 0 (48), else decimal
unfoldable pub number_of : List ℕ → Option Kind
number_of text =
    if slice_index text 0 == 48 && is_x (slice_index text 1) then written 16 (drop 2 text)
    else written (if slice_index text 0 == 48 then 8 else 10) text
