-- The numbers of a type have decimals.
use Rattle.std.proofs.Common.{◌≡◌, ◌+◌, ◌-◌, ◌^◌, ◌≤◌, true, false, ℤ, refl, arith}
use Rattle.std.specs.Prelude.{pos, negsuc, int_le}
use Rattle.std.proofs.lemmas.Bool.{and_parts, ltb-true, lt-ltb, leb-true}
use Rattle.c_values.specs.Types.{Target, Ilp32, Lp64, IntType, Char}
use Rattle.c_values.specs.Number.{is_between, least_of, greatest_of, is_of_type}
use Rattle.expression_text.specs.Numbers.{is_number}
use Rattle.memory_text.specs.ValueText.{is_address}

pub between_number : (low n high : ℤ) → is_number low ≡ true → is_number high ≡ true → is_between low n high ≡ true → is_number n ≡ true
between_number low (pos k) (pos h) l s is =
    let p = and_parts (int_le low (pos k)) (int_le (pos k) (pos h)) is in
    let le : k ≤ h = leb-true k h p.1 in
    let less = ltb-true h (2 ^ 128) s in
    lt-ltb k (2 ^ 128) (omega (arith, le, less))
between_number low (pos k) (negsuc h) l s is = let p = and_parts (int_le low (pos k)) false is in absurd cc
between_number (pos m) (negsuc k) high l s is = absurd cc
between_number (negsuc m) (negsuc k) high l s is =
    let p = and_parts (int_le (negsuc m) (negsuc k)) (int_le (negsuc k) high) is in
    let le : k ≤ m = leb-true k m p.0 in
    let less = ltb-true (m + 1) (2 ^ 128) l in
    lt-ltb (k + 1) (2 ^ 128) (omega (arith, le, less))

bounds : (g : Target) (i : IntType) → (is_number (least_of g i) ≡ true) × (is_number (greatest_of g i) ≡ true)
bounds Ilp32 Char = (refl, refl)
bounds Lp64 Char = (refl, refl)
bounds _ _ = (refl, refl)

pub integer_number : (g : Target) (i : IntType) (n : ℤ) → is_of_type g i n ≡ true → is_number n ≡ true
integer_number g i n is = let b = bounds g i in between_number (least_of g i) n (greatest_of g i) b.0 b.1 is

pub address_number : (g : Target) (n : ℤ) → is_address g n ≡ true → is_number n ≡ true
address_number Ilp32 n is = between_number (pos 0) n (pos (2 ^ 32 - 1)) refl refl is
address_number Lp64 n is = between_number (pos 0) n (pos (2 ^ 64 - 1)) refl refl is
