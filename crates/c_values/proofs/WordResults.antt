-- The values of the results of word operations.
use Rattle.std.proofs.Common.{◌≡◌, ℕ, zero, suc, ◌+◌, ◌-◌, ◌*◌, ◌/◌, ◌%◌, ◌^◌, ◌<◌, ◌≤◌, Bool, true, false, cond, ℤ, pos, negsuc, neg_ℤ, ◌+ℤ◌, ◌-ℤ◌, ◌*ℤ◌, refl, sym, ap, ◌∙◌, subst, arith, lit<}
use Rattle.std.proofs.Math.Nat.{pow-le-pow_right, mod-le, div-le_self}
use Rattle.std.proofs.lemmas.Int.{ints}
use Rattle.std.proofs.lemmas.Nat.{pow_pos}
use Rattle.std.specs.Ordering.{int_eq}
use Rattle.std.specs.Prelude.{unsigned_abs, int_div, int_rem}
use Rattle.c_values.specs.Number.{is_between, least, greatest, quotient, remainder}
use Rattle.c_values.specs.Word.{Word, IsWord, unsigned, signed, word, word_op, Wadd, Wsub, Wmul, Wudiv, Wumod, Wsdiv, Wsmod, word_unary, Wneg, cast}
use Rattle.c_values.proofs.Modulo.{AreAlike, word_alike}
use Rattle.c_values.proofs.WordValues.{IsSigned, low, high, signed_of, signed-word, unsigned-word, halves}

-- ---- results from signed values are those from the bits

sum_alike : (width x y : ℕ) (m n : ℤ) → IsSigned width x m → IsSigned width y n → AreAlike width (pos x +ℤ pos y) (m +ℤ n)
sum_alike width x y m n (low p) (low q) = record { left = 0; right = 0; same = omega (arith, ints) }
sum_alike width x y m n (low p) (high {c} q e) = record { left = 0; right = 1; same = omega (arith, ints) }
sum_alike width x y m n (high {c} p e) (low q) = record { left = 0; right = 1; same = omega (arith, ints) }
sum_alike width x y m n (high {c} p e) (high {c = d} q f) = record { left = 0; right = 2; same = omega (arith, ints) }

difference_alike : (width x y : ℕ) (m n : ℤ) → IsSigned width x m → IsSigned width y n → AreAlike width (pos x -ℤ pos y) (m -ℤ n)
difference_alike width x y m n (low p) (low q) = record { left = 0; right = 0; same = omega (arith, ints) }
difference_alike width x y m n (low p) (high {c} q e) = record { left = 1; right = 0; same = omega (arith, ints) }
difference_alike width x y m n (high {c} p e) (low q) = record { left = 0; right = 1; same = omega (arith, ints) }
difference_alike width x y m n (high {c} p e) (high {c = d} q f) = record { left = 0; right = 0; same = omega (arith, ints) }

negation_alike : (width x : ℕ) (m : ℤ) → IsSigned width x m → AreAlike width (neg_ℤ (pos x)) (neg_ℤ m)
negation_alike width x m (low p) = record { left = 0; right = 0; same = omega (arith, ints) }
negation_alike width x m (high {c} p e) = record { left = 1; right = 0; same = omega (arith, ints) }

-- x and y, with M for the whole and c and d for what they lack to it
product_by_high : (x y d M : ℕ) → y + suc d ≡ M → pos (x * y) +ℤ pos (0 * M) ≡ pos x *ℤ negsuc d +ℤ pos (x * M)
product_by_high x y d M e = subst (λ m. pos (x * y) +ℤ pos (0 * m) ≡ pos x *ℤ negsuc d +ℤ pos (x * m)) e (omega (arith, ints))

product_of_high : (x y c M : ℕ) → x + suc c ≡ M → pos (x * y) +ℤ pos (0 * M) ≡ negsuc c *ℤ pos y +ℤ pos (y * M)
product_of_high x y c M e = subst (λ m. pos (x * y) +ℤ pos (0 * m) ≡ negsuc c *ℤ pos y +ℤ pos (y * m)) e (omega (arith, ints))

product_of_both : (x y c d M : ℕ) → x + suc c ≡ M → y + suc d ≡ M → pos (x * y) +ℤ pos (M * M) ≡ negsuc c *ℤ negsuc d +ℤ pos ((x + y) * M)
product_of_both x y c d M e f =
    subst (λ m. pos (x * y) +ℤ pos (m * m) ≡ negsuc c *ℤ negsuc d +ℤ pos ((x + y) * m)) e
    (let times : suc c * (y + suc d) ≡ suc c * (x + suc c) = ap (λ z. suc c * z) (f ∙ sym e) in omega (arith, ints, times))

product_alike : (width x y : ℕ) (m n : ℤ) → IsSigned width x m → IsSigned width y n → AreAlike width (pos x *ℤ pos y) (m *ℤ n)
product_alike width x y m n (low p) (low q) = record { left = 0; right = 0; same = refl }
product_alike width x y m n (low p) (high {c = d} q f) = record { left = 0; right = x; same = product_by_high x y d (2 ^ width) f }
product_alike width x y m n (high {c} p e) (low q) = record { left = 0; right = y; same = product_of_high x y c (2 ^ width) e }
product_alike width x y m n (high {c} p e) (high {c = d} q f) = record { left = 2 ^ width; right = x + y; same = product_of_both x y c d (2 ^ width) e f }

-- from the word of the bits' result to the value
module _ (width : ℕ) (some : 1 ≤ width) where
  exact_signed : (a : Word) (m n : ℤ) → IsWord width a → AreAlike width m n → is_between (least true width) n (greatest true width) ≡ true → signed (word a.width m) ≡ n
  exact_signed a m n h alike fits =
      ap (λ w. signed (word w m)) h.has_width ∙ ap signed (word_alike width m n alike) ∙ signed-word width n some fits

  pub signed_sum : (a b : Word) → IsWord width a → IsWord width b → is_between (least true width) (signed a +ℤ signed b) (greatest true width) ≡ true → signed (word_op Wadd a b) ≡ signed a +ℤ signed b
  signed_sum a b h k = exact_signed a (unsigned a +ℤ unsigned b) (signed a +ℤ signed b) h (sum_alike width a.bits b.bits (signed a) (signed b) (signed_of width a h) (signed_of width b k))

  pub signed_difference : (a b : Word) → IsWord width a → IsWord width b → is_between (least true width) (signed a -ℤ signed b) (greatest true width) ≡ true → signed (word_op Wsub a b) ≡ signed a -ℤ signed b
  signed_difference a b h k = exact_signed a (unsigned a -ℤ unsigned b) (signed a -ℤ signed b) h (difference_alike width a.bits b.bits (signed a) (signed b) (signed_of width a h) (signed_of width b k))

  pub signed_product : (a b : Word) → IsWord width a → IsWord width b → is_between (least true width) (signed a *ℤ signed b) (greatest true width) ≡ true → signed (word_op Wmul a b) ≡ signed a *ℤ signed b
  signed_product a b h k = exact_signed a (unsigned a *ℤ unsigned b) (signed a *ℤ signed b) h (product_alike width a.bits b.bits (signed a) (signed b) (signed_of width a h) (signed_of width b k))

  pub signed_negation : (a : Word) → IsWord width a → is_between (least true width) (neg_ℤ (signed a)) (greatest true width) ≡ true → signed (word_unary Wneg a) ≡ neg_ℤ (signed a)
  signed_negation a h = exact_signed a (neg_ℤ (unsigned a)) (neg_ℤ (signed a)) h (negation_alike width a.bits (signed a) (signed_of width a h))

pub unsigned_exact : (width : ℕ) (a : Word) (n : ℤ) → IsWord width a → is_between (least false width) n (greatest false width) ≡ true → unsigned (word a.width n) ≡ n
unsigned_exact width a n h fits = ap (λ w. unsigned (word w n)) h.has_width ∙ unsigned-word width n fits

-- ---- quotients and remainders

-- a choice is one of the two
either : (P : ℤ → Type 0) (b : Bool) (m n : ℤ) → P m → P n → P (cond b m n)
either P true m n p q = p
either P false m n p q = q

abbrev IsUnsigned : ℕ → ℤ → Type 0
IsUnsigned width n = is_between (least false width) n (greatest false width) ≡ true

unsigned_between : (width m : ℕ) → m < 2 ^ width → IsUnsigned width (pos m)
unsigned_between width m h = grind (arith, ints)

pub unsigned_quotient : (width : ℕ) (a b : Word) → IsWord width a → IsWord width b → unsigned (word_op Wudiv a b) ≡ quotient (unsigned a) (unsigned b)
unsigned_quotient width a b h k =
    unsigned_exact width a (quotient (unsigned a) (unsigned b)) h
    (either (IsUnsigned width) (int_eq (unsigned b) (pos 0)) (pos 0) (int_div (unsigned a) (unsigned b))
    (unsigned_between width 0 (pow_pos width))
    (unsigned_between width (a.bits / b.bits) (omega (arith, div-le_self a.bits b.bits, h.fits))))

pub unsigned_remainder : (width : ℕ) (a b : Word) → IsWord width a → IsWord width b → unsigned (word_op Wumod a b) ≡ remainder (unsigned a) (unsigned b)
unsigned_remainder width a b h k =
    unsigned_exact width a (remainder (unsigned a) (unsigned b)) h
    (either (IsUnsigned width) (int_eq (unsigned b) (pos 0)) (unsigned a) (int_rem (unsigned a) (unsigned b))
    (unsigned_between width a.bits h.fits)
    (unsigned_between width (a.bits % b.bits) (omega (arith, mod-le a.bits b.bits, h.fits))))

abbrev IsInRange : ℕ → ℤ → Type 0
IsInRange width n = is_between (least true width) n (greatest true width) ≡ true

pub positive_between : (half m : ℕ) → m < half → is_between (neg_ℤ (pos half)) (pos m) (pos (half - 1)) ≡ true
positive_between half m h = grind (arith, ints)

pub negative_between : (half m : ℕ) → m < half → is_between (neg_ℤ (pos half)) (negsuc m) (pos (half - 1)) ≡ true
negative_between half m h = grind (arith, ints)

-- what is not above 0 and not below a number of the range
negated_between : (half r c : ℕ) → r ≤ suc c → c < half → is_between (neg_ℤ (pos half)) (neg_ℤ (pos r)) (pos (half - 1)) ≡ true
negated_between half zero c h k = positive_between half 0 (omega arith)
negated_between half (suc r) c h k = negative_between half r (omega arith)

pub high_below : (width bits c : ℕ) → 1 ≤ width → 2 ^ (width - 1) ≤ bits → bits + suc c ≡ 2 ^ width → c < 2 ^ (width - 1)
high_below width bits c some h e = omega (arith, halves width some)

signed_in_range : (width bits : ℕ) (m : ℤ) → 1 ≤ width → IsSigned width bits m → IsInRange width m
signed_in_range width bits m some (low p) = positive_between (2 ^ (width - 1)) bits p
signed_in_range width bits m some (high {c} p e) = negative_between (2 ^ (width - 1)) c (high_below width bits c some p e)

remainder_in_range : (width bits : ℕ) (m n : ℤ) → 1 ≤ width → IsSigned width bits m → IsInRange width (int_rem m n)
remainder_in_range width bits m n some (low p) = positive_between (2 ^ (width - 1)) (bits % unsigned_abs n) (omega (arith, mod-le bits (unsigned_abs n)))
remainder_in_range width bits m n some (high {c} p e) = negated_between (2 ^ (width - 1)) (suc c % unsigned_abs n) c (mod-le (suc c) (unsigned_abs n)) (high_below width bits c some p e)

alike_self : (width : ℕ) (n : ℤ) → AreAlike width n n
alike_self width n = record { left = 0; right = 0; same = refl }

pub signed_quotient : (width : ℕ) → 1 ≤ width → (a b : Word) → IsWord width a → is_between (least true width) (quotient (signed a) (signed b)) (greatest true width) ≡ true → signed (word_op Wsdiv a b) ≡ quotient (signed a) (signed b)
signed_quotient width some a b h = exact_signed width some a (quotient (signed a) (signed b)) (quotient (signed a) (signed b)) h (alike_self width (quotient (signed a) (signed b)))

pub signed_remainder : (width : ℕ) → 1 ≤ width → (a b : Word) → IsWord width a → signed (word_op Wsmod a b) ≡ remainder (signed a) (signed b)
signed_remainder width some a b h =
    exact_signed width some a (remainder (signed a) (signed b)) (remainder (signed a) (signed b)) h (alike_self width (remainder (signed a) (signed b)))
    (either (IsInRange width) (int_eq (signed b) (pos 0)) (signed a) (int_rem (signed a) (signed b))
    (signed_in_range width a.bits (signed a) some (signed_of width a h))
    (remainder_in_range width a.bits (signed a) (signed b) some (signed_of width a h)))

-- ---- casts

wider : (m n : ℕ) → m ≤ n → 2 ^ m ≤ 2 ^ n
wider m n h = pow-le-pow_right (lit< tt) h

pub unsigned_cast : (from width : ℕ) (a : Word) → from ≤ width → IsWord from a → unsigned (cast false width a) ≡ unsigned a
unsigned_cast from width a w h = unsigned-word width (unsigned a) (unsigned_between width a.bits (omega (arith, h.fits, wider from width w)))

wider_range : (from width bits : ℕ) (m : ℤ) → 1 ≤ from → from ≤ width → IsSigned from bits m → IsInRange width m
wider_range from width bits m some w (low p) = positive_between (2 ^ (width - 1)) bits (omega (arith, wider (from - 1) (width - 1) (omega arith)))
wider_range from width bits m some w (high {c} p e) = negative_between (2 ^ (width - 1)) c (omega (arith, high_below from bits c some p e, wider (from - 1) (width - 1) (omega arith)))

pub signed_cast : (from width : ℕ) (a : Word) → 1 ≤ from → from ≤ width → IsWord from a → signed (cast true width a) ≡ signed a
signed_cast from width a some w h = signed-word width (signed a) (omega arith) (wider_range from width a.bits (signed a) some w (signed_of from a h))

pub positive_cast : (from width : ℕ) (a : Word) → from < width → IsWord from a → signed (cast false width a) ≡ unsigned a
positive_cast from width a w h = signed-word width (unsigned a) (omega arith) (positive_between (2 ^ (width - 1)) a.bits (omega (arith, h.fits, wider from (width - 1) (omega arith))))
