-- Numbers, widths and numbered names that have texts.
use Rattle.std.proofs.Common.{◌≡◌, ℕ, ◌-◌, ◌^◌, ◌<◌, Bool, true, false, ◌&&◌, ℤ, pos, inl, inr, refl, sym, subst, arith}
use Rattle.std.specs.Prelude.{nat_lt}
use Rattle.std.proofs.lemmas.Bool.{and_from, lt-ltb}
use Rattle.c_values.specs.Types.{Target, IntType, Integer, width_of, is_signed}
use Rattle.c_values.specs.Number.{least, greatest, least_of, greatest_of}
use Rattle.c_values.specs.Width.{IsWidth}
use Rattle.c_values.specs.Word.{word}
use Rattle.expression_lang.proofs.Filled.{word_fits}
use Rattle.expression_text.specs.Names.{is_name}
use Rattle.expression_text.specs.Numbers.{is_number}
use Rattle.expression_text.specs.ExpText.{is_width}
use Rattle.unit_names.proofs.NumberedNames.{decimal_goes_on}
use Rattle.generation.specs.Generate.{call_local, switch_local, first_local}
use Rattle.generation.proofs.SortedExpressions.{scalar_wide}

pub at_widths : (P : ℕ → Type 0) → P 8 → P 16 → P 32 → P 64 → (n : ℕ) → IsWidth n → P n
at_widths P a b c d n (inl e) = subst P (sym e) a
at_widths P a b c d n (inr (inl e)) = subst P (sym e) b
at_widths P a b c d n (inr (inr (inl e))) = subst P (sym e) c
at_widths P a b c d n (inr (inr (inr e))) = subst P (sym e) d

pub width_is : (n : ℕ) → IsWidth n → is_width n ≡ true
width_is = at_widths (λ n. is_width n ≡ true) refl refl refl refl

pub least_is : (s : Bool) (n : ℕ) → IsWidth n → is_number (least s n) ≡ true
least_is true = at_widths (λ n. is_number (least true n) ≡ true) refl refl refl refl
least_is false = at_widths (λ n. is_number (least false n) ≡ true) refl refl refl refl

pub greatest_is : (s : Bool) (n : ℕ) → IsWidth n → is_number (greatest s n) ≡ true
greatest_is true = at_widths (λ n. is_number (greatest true n) ≡ true) refl refl refl refl
greatest_is false = at_widths (λ n. is_number (greatest false n) ≡ true) refl refl refl refl

pub least_of_is : (t : Target) (i : IntType) → is_number (least_of t i) ≡ true
least_of_is t i = least_is (is_signed i) (width_of t i) (scalar_wide t (Integer i))

pub greatest_of_is : (t : Target) (i : IntType) → is_number (greatest_of t i) ≡ true
greatest_of_is t i = greatest_is (is_signed i) (width_of t i) (scalar_wide t (Integer i))

-- the last bit's place
pub last_is : (t : Target) (i : IntType) → is_number (pos (width_of t i - 1)) ≡ true
last_is t i = at_widths (λ n. is_number (pos (n - 1)) ≡ true) refl refl refl refl (width_of t i) (scalar_wide t (Integer i))

pub index_is : (n : ℕ) → n < 2 ^ 32 → is_number (pos (n - 1)) ≡ true
index_is n h = lt-ltb (n - 1) (2 ^ 128) (omega arith)

pub word_is : (n : ℕ) (k : ℤ) → IsWidth n → (is_width n && nat_lt (word n k).bits (2 ^ n)) ≡ true
word_is n k w = and_from _ _ (width_is n w) (lt-ltb (word n k).bits (2 ^ n) (word_fits n k).fits)

-- the names that are added

pub call_named : (n : ℕ) → is_name (call_local n) ≡ true
call_named n = decimal_goes_on n

pub switch_named : (n : ℕ) → is_name (switch_local n) ≡ true
switch_named n = decimal_goes_on n

pub first_named : (n : ℕ) → is_name (first_local n) ≡ true
first_named n = decimal_goes_on n
