-- The magnitudes of the numbers that words stand for, and of what operations on such numbers give.
use Rattle.std.specs.Prelude.{unsigned_abs, int_div, int_rem, nat_le}
use Rattle.std.specs.Ordering.{int_eq}
use Rattle.std.proofs.Common.{◌≡◌, ℕ, suc, ◌+◌, ◌-◌, ◌*◌, ◌^◌, ◌<◌, ◌≤◌, Bool, true, false, cond, None, ℤ, pos, negsuc, neg_ℤ, ◌+ℤ◌, ◌-ℤ◌, ◌*ℤ◌, inl, inr, sym, subst, arith, lit<}
use Rattle.std.proofs.Math.Nat.{pow-le-pow_right, mul-le-mul, mod-le, div-le_self}
use Rattle.std.proofs.lemmas.Bool.{cond-false}
use Rattle.std.proofs.lemmas.Bool.Decides.{nat_tests}
use Rattle.std.proofs.lemmas.Int.{ints, unsigned_abs-mul}
use Rattle.std.proofs.lemmas.Nat.{pow_pos}
use Rattle.c_values.specs.Number.{NumberOp, Add, Sub, Mul, Div, Mod, Neg, number_op}
use Rattle.c_values.specs.Width.{IsWidth}
use Rattle.c_values.specs.Word.{Word, IsWord, unsigned, signed}
use Rattle.c_values.proofs.WordValues.{IsSigned, low, high, signed_of}
use Rattle.expression_lang.specs.Wide.{wide_operation}

-- a number whose magnitude is below a bound
pub record IsBelow (bound : ℕ) (n : ℤ) : Type 0 where
  pub below : unsigned_abs n < bound

-- words

at_most_64 : (width : ℕ) → IsWidth width → width ≤ 64
at_most_64 width (inl e) = omega arith
at_most_64 width (inr (inl e)) = omega arith
at_most_64 width (inr (inr (inl e))) = omega arith
at_most_64 width (inr (inr (inr e))) = omega arith

whole_below : (width : ℕ) → IsWidth width → 2 ^ width ≤ 2 ^ 64
whole_below width w = let two : 0 < 2 = lit< tt in pow-le-pow_right two (at_most_64 width w)

signed_magnitude : (width bits : ℕ) (n : ℤ) → bits < 2 ^ width → IsSigned width bits n → unsigned_abs n < 2 ^ width
signed_magnitude width bits n h (low p) = h
signed_magnitude width bits n h (high {c} p e) = let some : 0 < 2 ^ (width - 1) = pow_pos (width - 1) in omega arith

module _ (width : ℕ) (w : Word) (wide : IsWidth width) (h : IsWord width w) where
  pub unsigned_below : IsBelow (2 ^ 64) (unsigned w)
  unsigned_below = record { below = let k = whole_below width wide in let b = h.fits in omega arith }

  pub signed_below : IsBelow (2 ^ 64) (signed w)
  signed_below =
      let k = whole_below width wide in let b =
      signed_magnitude width w.bits (signed w) h.fits (signed_of width w h) in record { below = omega arith }

-- operations

sum_below : (m : ℕ) (a b : ℤ) → unsigned_abs a < m → unsigned_abs b < m → unsigned_abs (a +ℤ b) < m + m
sum_below m a b h k = omega (arith, ints)

difference_below : (m : ℕ) (a b : ℤ) → unsigned_abs a < m → unsigned_abs b < m → unsigned_abs (a -ℤ b) < m + m
difference_below m a b h k = omega (arith, ints)

negation_below : (m : ℕ) (a : ℤ) → unsigned_abs a < m → unsigned_abs (neg_ℤ a) < m
negation_below m a h = omega (arith, ints)

product_below : (m : ℕ) (a b : ℤ) → unsigned_abs a < suc m → unsigned_abs b < suc m → unsigned_abs (a *ℤ b) ≤ m * m
product_below m a b h k =
    let i : unsigned_abs a ≤ m = omega arith in
    let j : unsigned_abs b ≤ m = omega arith in subst (λ n. n ≤ m * m) (sym (unsigned_abs-mul a b)) (mul-le-mul i j)

quotient_at_most : (a b : ℤ) → unsigned_abs (int_div a b) ≤ unsigned_abs a
quotient_at_most (pos a) (pos b) = div-le_self a b
quotient_at_most (pos a) (negsuc b) = omega (arith, ints, div-le_self a (suc b))
quotient_at_most (negsuc a) (pos b) = omega (arith, ints, div-le_self (suc a) b)
quotient_at_most (negsuc a) (negsuc b) = div-le_self (suc a) (suc b)

remainder_at_most : (a b : ℤ) → unsigned_abs (int_rem a b) ≤ unsigned_abs a
remainder_at_most (pos a) b = mod-le a (unsigned_abs b)
remainder_at_most (negsuc a) b = omega (arith, ints, mod-le (suc a) (unsigned_abs b))

-- one of two, by a test
chosen_below : (m : ℕ) (b : Bool) (x y : ℤ) → unsigned_abs x < m → unsigned_abs y < m → unsigned_abs (cond b x y) < m
chosen_below m true x y h k = h
chosen_below m false x y h k = k

result_below : (op : NumberOp) (a b : ℤ) → unsigned_abs a < 2 ^ 64 → unsigned_abs b < 2 ^ 64 →
    unsigned_abs (number_op op a b) < 2 ^ 128
result_below Add a b h k = let r = sum_below (2 ^ 64) a b h k in omega arith
result_below Sub a b h k = let r = difference_below (2 ^ 64) a b h k in omega arith
result_below Mul a b h k = let r = product_below (2 ^ 64 - 1) a b h k in omega arith
result_below Div a b h k =
    let q = quotient_at_most a b in chosen_below (2 ^ 128) (int_eq b (pos 0)) (pos 0) (int_div a b) (omega arith) (omega arith)
result_below Mod a b h k =
    let r = remainder_at_most a b in chosen_below (2 ^ 128) (int_eq b (pos 0)) a (int_rem a b) (omega arith) (omega arith)
result_below Neg a b h k = let r = negation_below (2 ^ 64) a h in omega arith

not_reached : (m n : ℕ) → n < m → nat_le m n ≡ false
not_reached m n h = grind (arith, nat_tests)

-- numbers below 2^64 have no wide operation
pub narrow_operation : (op : NumberOp) (a b : ℤ) → IsBelow (2 ^ 64) a → IsBelow (2 ^ 64) b → wide_operation op a b ≡ None
narrow_operation op a b h k =
    cond-false (nat_le (2 ^ 128) (unsigned_abs (number_op op a b))) _ None
    (not_reached (2 ^ 128) (unsigned_abs (number_op op a b)) (result_below op a b h.below k.below))
