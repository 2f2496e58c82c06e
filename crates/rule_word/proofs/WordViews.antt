-- The values of words' operations, where the words are of a width, of any number of bits.
use Rattle.std.proofs.Common.{◌≡◌, ℕ, zero, suc, ◌<◌, ◌≤◌, ◌^◌, Bool, true, false, ℤ, pos, refl, sym, subst, ap, ◌∙◌, arith}
use Rattle.std.specs.Prelude.{neg_ℤ, ◌+ℤ◌, ◌-ℤ◌, ◌*ℤ◌}
use Rattle.c_values.specs.Word.{Word, IsWord, unsigned, signed, Wadd, Wsub, Wmul, Wsdiv, Wsmod, Wneg, word_op, word_unary, cast}
use Rattle.c_values.specs.Number.{quotient, remainder, is_between, least, greatest}
use Rattle.c_values.proofs.WordResults as R
use Rattle.c_values.proofs.WordResults.{unsigned_exact, unsigned_cast, positive_cast}
use Rattle.c_values.proofs.WordValues.{word_is}

-- a word without bits
is_none : (a : Word) → IsWord 0 a → a ≡ record { width = 0; bits = 0 }
is_none a h = word_is 0 a h ∙ ap (λ n. record { width = 0; bits = n }) (no_bits a.bits h.fits)
  where
    no_bits : (n : ℕ) → n < 2 ^ 0 → n ≡ 0
    no_bits n k = omega (arith, k)

pub without_bits : (P : Word → Type 0) → P (record { width = 0; bits = 0 }) → (a : Word) → IsWord 0 a → P a
without_bits P p a h = subst P (sym (is_none a h)) p

two_without_bits : (P : Word → Word → Type 0) → P (record { width = 0; bits = 0 }) (record { width = 0; bits = 0 }) → (a b : Word) → IsWord 0 a → IsWord 0 b → P a b
two_without_bits P p a b h k = without_bits (λ x. P x b) (without_bits (λ y. P (record { width = 0; bits = 0 }) y) p b k) a h

some_bits : (n : ℕ) → 1 ≤ suc n
some_bits n = omega arith

abbrev pub Fits : Bool → ℕ → ℤ → Type 0
Fits sign n z = is_between (least sign n) z (greatest sign n) ≡ true

pub signed_sum : (n : ℕ) (a b : Word) → IsWord n a → IsWord n b → Fits true n (signed a +ℤ signed b) → signed (word_op Wadd a b) ≡ signed a +ℤ signed b
signed_sum zero a b h k r = two_without_bits (λ x y. signed (word_op Wadd x y) ≡ signed x +ℤ signed y) refl a b h k
signed_sum (suc n) a b h k r = R.signed_sum (suc n) (some_bits n) a b h k r

pub signed_difference : (n : ℕ) (a b : Word) → IsWord n a → IsWord n b → Fits true n (signed a -ℤ signed b) → signed (word_op Wsub a b) ≡ signed a -ℤ signed b
signed_difference zero a b h k r = two_without_bits (λ x y. signed (word_op Wsub x y) ≡ signed x -ℤ signed y) refl a b h k
signed_difference (suc n) a b h k r = R.signed_difference (suc n) (some_bits n) a b h k r

pub signed_product : (n : ℕ) (a b : Word) → IsWord n a → IsWord n b → Fits true n (signed a *ℤ signed b) → signed (word_op Wmul a b) ≡ signed a *ℤ signed b
signed_product zero a b h k r = two_without_bits (λ x y. signed (word_op Wmul x y) ≡ signed x *ℤ signed y) refl a b h k
signed_product (suc n) a b h k r = R.signed_product (suc n) (some_bits n) a b h k r

pub signed_negation : (n : ℕ) (a : Word) → IsWord n a → Fits true n (neg_ℤ (signed a)) → signed (word_unary Wneg a) ≡ neg_ℤ (signed a)
signed_negation zero a h r = without_bits (λ x. signed (word_unary Wneg x) ≡ neg_ℤ (signed x)) refl a h
signed_negation (suc n) a h r = R.signed_negation (suc n) (some_bits n) a h r

pub signed_quotient : (n : ℕ) (a b : Word) → IsWord n a → IsWord n b → Fits true n (quotient (signed a) (signed b)) → signed (word_op Wsdiv a b) ≡ quotient (signed a) (signed b)
signed_quotient zero a b h k r = two_without_bits (λ x y. signed (word_op Wsdiv x y) ≡ quotient (signed x) (signed y)) refl a b h k
signed_quotient (suc n) a b h k r = R.signed_quotient (suc n) (some_bits n) a b h r

pub signed_remainder : (n : ℕ) (a b : Word) → IsWord n a → IsWord n b → signed (word_op Wsmod a b) ≡ remainder (signed a) (signed b)
signed_remainder zero a b h k = two_without_bits (λ x y. signed (word_op Wsmod x y) ≡ remainder (signed x) (signed y)) refl a b h k
signed_remainder (suc n) a b h k = R.signed_remainder (suc n) (some_bits n) a b h

pub unsigned_sum : (n : ℕ) (a b : Word) → IsWord n a → Fits false n (unsigned a +ℤ unsigned b) → unsigned (word_op Wadd a b) ≡ unsigned a +ℤ unsigned b
unsigned_sum n a b h r = unsigned_exact n a (unsigned a +ℤ unsigned b) h r

pub unsigned_difference : (n : ℕ) (a b : Word) → IsWord n a → Fits false n (unsigned a -ℤ unsigned b) → unsigned (word_op Wsub a b) ≡ unsigned a -ℤ unsigned b
unsigned_difference n a b h r = unsigned_exact n a (unsigned a -ℤ unsigned b) h r

pub unsigned_product : (n : ℕ) (a b : Word) → IsWord n a → Fits false n (unsigned a *ℤ unsigned b) → unsigned (word_op Wmul a b) ≡ unsigned a *ℤ unsigned b
unsigned_product n a b h r = unsigned_exact n a (unsigned a *ℤ unsigned b) h r

pub unsigned_negation : (n : ℕ) (a : Word) → IsWord n a → Fits false n (neg_ℤ (unsigned a)) → unsigned (word_unary Wneg a) ≡ neg_ℤ (unsigned a)
unsigned_negation n a h r = unsigned_exact n a (neg_ℤ (unsigned a)) h r

zero_cast : (m : ℕ) → 0 < m → signed (cast true m (record { width = 0; bits = 0 })) ≡ pos 0
zero_cast m h = positive_cast 0 m (record { width = 0; bits = 0 }) h (record { has_width = refl; fits = omega arith })

pub signed_cast : (n m : ℕ) (a : Word) → n < m → IsWord n a → signed (cast true m a) ≡ signed a
signed_cast zero m a w h = without_bits (λ x. signed (cast true m x) ≡ signed x) (zero_cast m w) a h
signed_cast (suc n) m a w h = R.signed_cast (suc n) m a (some_bits n) (omega (arith, w)) h

pub unsigned_wider : (n m : ℕ) (a : Word) → n < m → IsWord n a → unsigned (cast false m a) ≡ unsigned a
unsigned_wider n m a w h = unsigned_cast n m a (omega (arith, w)) h
