-- The values of words, and the numbers that are the value of a word of a width.
use Rattle.std.proofs.Common.{◌≡◌, ℕ, zero, suc, ◌+◌, ◌-◌, ◌^◌, ◌<◌, ◌≤◌, ◌⊎◌, inl, inr, true, false, ltb, ℤ, pos, negsuc, neg_ℤ, ◌-ℤ◌, refl, sym, ap, ◌∙◌, subst, arith}
use Rattle.std.proofs.Math.Nat.{pow-suc}
use Rattle.std.proofs.lemmas.Int.{ints}
use Rattle.std.proofs.lemmas.Nat.{pow_pos}
use Rattle.std.proofs.lemmas.Bool.{cases_lt, cond-true, cond-false, lt-ltb, le-ltb}
use Rattle.c_values.specs.Number.{is_between, least, greatest}
use Rattle.c_values.specs.Word.{Word, IsWord, unsigned, signed, word}
use Rattle.c_values.proofs.Modulo.{AreAlike, word_alike, word_small}

-- twice the half is the whole
pub halves : (width : ℕ) → 1 ≤ width → 2 ^ width ≡ 2 ^ (width - 1) + 2 ^ (width - 1)
halves (suc n) h = let e : suc n - 1 ≡ n = omega arith in rw e (omega (arith, pow-suc 2 n))
halves zero h = absurd (omega arith)

-- the signed value: the bits, or less than 0 by as much as the bits lack to the whole
pub data IsSigned (width bits : ℕ) : ℤ → Type 0 where
  low : bits < 2 ^ (width - 1) → IsSigned width bits (pos bits)
  high : {c : ℕ} → 2 ^ (width - 1) ≤ bits → bits + suc c ≡ 2 ^ width → IsSigned width bits (negsuc c)

less_than_whole : (bits whole : ℕ) → bits < whole → pos bits -ℤ pos whole ≡ negsuc (whole - bits - 1)
less_than_whole bits whole h = omega (arith, ints)

pub signed_is : (width bits : ℕ) → bits < 2 ^ width → IsSigned width bits (signed (record { width = width; bits = bits }))
signed_is width bits h = by_cases (cases_lt bits (2 ^ (width - 1)))
  where
    by_cases : (bits < 2 ^ (width - 1)) ⊎ (2 ^ (width - 1) ≤ bits) → IsSigned width bits (signed (record { width = width; bits = bits }))
    by_cases (inl c) = subst (IsSigned width bits) (sym (cond-true (ltb bits (2 ^ (width - 1))) (pos bits) (pos bits -ℤ pos (2 ^ width)) (lt-ltb bits (2 ^ (width - 1)) c))) (low c)
    by_cases (inr c) = subst (IsSigned width bits) (sym (cond-false (ltb bits (2 ^ (width - 1))) (pos bits) (pos bits -ℤ pos (2 ^ width)) (le-ltb bits (2 ^ (width - 1)) c) ∙ less_than_whole bits (2 ^ width) h)) (high c (omega arith))

unsigned_alike : (width bits : ℕ) (n : ℤ) → IsSigned width bits n → AreAlike width n (pos bits)
unsigned_alike width bits n (low h) = record { left = 0; right = 0; same = omega (arith, ints) }
unsigned_alike width bits n (high {c} h e) = record { left = 1; right = 0; same = omega (arith, ints) }

-- a number from 0 to the greatest of the width
pub record IsUnsignedValue (width : ℕ) (n : ℤ) : Type 0 where
  pub number : ℕ
  pub is : n ≡ pos number
  pub small : number < 2 ^ width

pub unsigned_value : (width : ℕ) (n : ℤ) → is_between (least false width) n (greatest false width) ≡ true → IsUnsignedValue width n
unsigned_value width (pos m) h = record { number = m; is = refl; small = let p : 0 < 2 ^ width = pow_pos width in grind arith }
unsigned_value width (negsuc m) h = absurd (grind arith)

pub unsigned-word : (width : ℕ) (n : ℤ) → is_between (least false width) n (greatest false width) ≡ true → unsigned (word width n) ≡ n
unsigned-word width n h =
    let v = unsigned_value width n h in
    ap (λ m. unsigned (word width m)) v.is ∙ ap unsigned (word_small width v.number v.small) ∙ sym v.is

-- a number of the signed range, by its bits
pub record IsSignedValue (width : ℕ) (n : ℤ) : Type 0 where
  pub bits : ℕ
  pub small : bits < 2 ^ width
  pub is : IsSigned width bits n

signed_positive : (m half : ℕ) → is_between (neg_ℤ (pos half)) (pos m) (pos (half - 1)) ≡ true → 0 < half → m < half
signed_positive m half h k = grind (arith, ints)

signed_negative : (m half : ℕ) → is_between (neg_ℤ (pos half)) (negsuc m) (pos (half - 1)) ≡ true → 0 < half → m < half
signed_negative m half h k = grind (arith, ints)

pub signed_value : (width : ℕ) (n : ℤ) → 1 ≤ width → is_between (least true width) n (greatest true width) ≡ true → IsSignedValue width n
signed_value width (pos m) w h =
    let small = signed_positive m (2 ^ (width - 1)) h (pow_pos (width - 1)) in
    record { bits = m; small = omega (arith, halves width w); is = low small }
signed_value width (negsuc m) w h =
    let small = signed_negative m (2 ^ (width - 1)) h (pow_pos (width - 1)) in
    record { bits = 2 ^ width - suc m; small = omega (arith, pow_pos width); is = high (omega (arith, halves width w)) (omega (arith, halves width w)) }

one_signed : (width bits : ℕ) (m n : ℤ) → IsSigned width bits m → IsSigned width bits n → m ≡ n
one_signed width bits m n (low p) (low q) = refl
one_signed width bits m n (low p) (high q e) = absurd (omega arith)
one_signed width bits m n (high p e) (low q) = absurd (omega arith)
one_signed width bits m n (high p e) (high q f) = ap negsuc (omega arith)

word_of_signed : (width bits : ℕ) (n : ℤ) → bits < 2 ^ width → IsSigned width bits n → word width n ≡ record { width = width; bits = bits }
word_of_signed width bits n h s = word_alike width n (pos bits) (unsigned_alike width bits n s) ∙ word_small width bits h

pub signed-word : (width : ℕ) (n : ℤ) → 1 ≤ width → is_between (least true width) n (greatest true width) ≡ true → signed (word width n) ≡ n
signed-word width n w h =
    let v = signed_value width n w h in
    ap signed (word_of_signed width v.bits n v.small v.is)
    ∙ one_signed width v.bits (signed (record { width = width; bits = v.bits })) n (signed_is width v.bits v.small) v.is

-- a word by its two parts
pub word_is : (width : ℕ) (a : Word) → IsWord width a → a ≡ record { width = width; bits = a.bits }
word_is width a h = ap (λ w. record { width = w; bits = a.bits }) h.has_width

pub word-unsigned : (width : ℕ) (a : Word) → IsWord width a → word width (unsigned a) ≡ a
word-unsigned width a h = word_small width a.bits h.fits ∙ sym (word_is width a h)

pub signed_of : (width : ℕ) (a : Word) → IsWord width a → IsSigned width a.bits (signed a)
signed_of width a h = subst (λ w. IsSigned width a.bits (signed (record { width = w; bits = a.bits }))) (sym h.has_width) (signed_is width a.bits h.fits)

pub word-signed : (width : ℕ) (a : Word) → IsWord width a → word width (signed a) ≡ a
word-signed width a h = word_of_signed width a.bits (signed a) h.fits (signed_of width a h) ∙ sym (word_is width a h)
