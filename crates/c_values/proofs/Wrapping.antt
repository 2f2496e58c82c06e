-- Words of numbers that were computed modulo 2^64.
use Rattle.std.proofs.Common.{◌≡◌, ℕ, zero, suc, ◌-◌, ◌/◌, ◌^◌, ◌<◌, ◌≤◌, ◌⊎◌, inl, inr, ℤ, pos, negsuc, neg_ℤ, refl, sym, ap, subst, arith}
use Rattle.std.proofs.Math.Nat.{div-le_self}
use Rattle.std.proofs.lemmas.Bool.{cases_lt, cond-false, false_from_ne_true}
use Rattle.std.specs.Cmp.{signed_Decides}
use Rattle.std.specs.Ordering.{int_eq}
use Rattle.std.proofs.lemmas.Int.{to_z-of_z}
use Rattle.std.specs.Int.{w64, cast_signed, cast_unsigned}
use Rattle.std.specs.Prelude.{FitsSigned, int_div}
use Rattle.c_values.specs.Width.{IsWidth}
use Rattle.c_values.specs.Word.{word}
use Rattle.c_values.specs.Number.{quotient}
use Rattle.c_values.proofs.Modulo.{AreAlike, word_alike}

lt_or_eq : (m n : ℕ) → m ≤ n → (m < n) ⊎ (m ≡ n)
lt_or_eq m n h = by_cases (cases_lt m n)
  where
    by_cases : (m < n) ⊎ (n ≤ m) → (m < n) ⊎ (m ≡ n)
    by_cases (inl c) = inl c
    by_cases (inr c) = inr (omega arith)

-- what a quotient of two signed numbers can be
abbrev IsQuotient : ℤ → Type 0
IsQuotient z = FitsSigned w64 z ⊎ (z ≡ pos (2 ^ 63))

positive_quotient : (n : ℕ) → n ≤ 2 ^ 63 → IsQuotient (pos n)
positive_quotient n h = by_cases (lt_or_eq n (2 ^ 63) h)
  where
    by_cases : (n < 2 ^ 63) ⊎ (n ≡ 2 ^ 63) → IsQuotient (pos n)
    by_cases (inl c) = inl (record { sfits = c })
    by_cases (inr c) = inr (ap pos c)

negative_quotient : (n : ℕ) → n ≤ 2 ^ 63 → IsQuotient (neg_ℤ (pos n))
negative_quotient zero h = inl (record { sfits = omega arith })
negative_quotient (suc n) h = inl (record { sfits = omega arith })

quotient_is : (a b : ℤ) → FitsSigned w64 a → IsQuotient (int_div a b)
quotient_is (pos x) (pos y) h = positive_quotient (x / y) (omega (arith, div-le_self x y, h.sfits))
quotient_is (pos x) (negsuc y) h = negative_quotient (x / suc y) (omega (arith, div-le_self x (suc y), h.sfits))
quotient_is (negsuc x) (pos y) h = negative_quotient (suc x / y) (omega (arith, div-le_self (suc x) y, h.sfits))
quotient_is (negsuc x) (negsuc y) h = positive_quotient (suc x / suc y) (omega (arith, div-le_self (suc x) (suc y), h.sfits))

abbrev least : ℤ
least = negsuc (2 ^ 63 - 1)

least_alike : (width : ℕ) → IsWidth width → AreAlike width least (pos (2 ^ 63))
least_alike width (inl e) = subst (λ w. AreAlike w least (pos (2 ^ 63))) (sym e) (record { left = 2 ^ 56; right = 0; same = refl })
least_alike width (inr (inl e)) = subst (λ w. AreAlike w least (pos (2 ^ 63))) (sym e) (record { left = 2 ^ 48; right = 0; same = refl })
least_alike width (inr (inr (inl e))) = subst (λ w. AreAlike w least (pos (2 ^ 63))) (sym e) (record { left = 2 ^ 32; right = 0; same = refl })
least_alike width (inr (inr (inr e))) = subst (λ w. AreAlike w least (pos (2 ^ 63))) (sym e) (record { left = 1; right = 0; same = refl })

wrapped : (width : ℕ) (z : ℤ) → IsWidth width → IsQuotient z → word width (cast_signed w64 (cast_unsigned w64 z)) ≡ word width z
wrapped width z h (inl fits) = ap (word width) (to_z-of_z w64 z fits)
wrapped width z h (inr e) = subst (λ n. word width (cast_signed w64 (cast_unsigned w64 n)) ≡ word width n) (sym e) (word_alike width least (pos (2 ^ 63)) (least_alike width h))

-- a wrapping quotient
pub word-quotient : (width : ℕ) (a b : ℤ) → IsWidth width → FitsSigned w64 a → word width (cast_signed w64 (cast_unsigned w64 (int_div a b))) ≡ word width (int_div a b)
word-quotient width a b h fits = wrapped width (int_div a b) h (quotient_is a b fits)

pub quotient_by_some : (a b : ℤ) → ¬ (cast_unsigned w64 b ≡ 0) → quotient a b ≡ int_div a b
quotient_by_some a b h = cond-false (int_eq b (pos 0)) (pos 0) (int_div a b) (false_from_ne_true (int_eq b (pos 0)) (λ e. h (ap (cast_unsigned w64) ((signed_Decides b (pos 0)).0 e))))
