-- Addresses of elements, by words of 64 bits.
use Rattle.std.proofs.Common.{◌≡◌, ℕ, suc, ◌+◌, ◌-◌, ◌*◌, ◌%◌, ◌^◌, ◌<◌, ◌≤◌, ℤ, pos, negsuc, neg_ℤ, ◌+ℤ◌, ◌*ℤ◌, refl, sym, ap, ◌∙◌, arith}
use Rattle.std.proofs.Math.Nat.{add-mul, add-mod-mod, mod-add-mod, mod-mod_of_dvd, dvd-mul_right}
use Rattle.std.proofs.lemmas.Nat.{mul-mod_first, pow_pos}
use Rattle.std.proofs.lemmas.Int.{ints, int_rem_euclid_is}
use Rattle.std.specs.Int.{int_rem_euclid}
use Rattle.c_values.specs.Types.{Target, Ilp32, Lp64, address_width}
use Rattle.c_values.specs.Number.{natural}
use Rattle.c_values.specs.Word.{word}
use Rattle.c_memory.specs.Memory.{address_at}

-- modulo a number that divides d, a product may be reduced modulo d
reduced : (a to size s e d : ℕ) → d ≡ s * e → (a + ((to % d) * size) % d) % s ≡ (a + to * size) % s
reduced a to size s e d h =
    ap (λ n. (a + n) % s) (mul-mod_first to size d)
    ∙ sym (add-mod-mod a ((to * size) % d) s)
    ∙ ap (λ n. (a + n) % s) (ap (λ m. ((to * size) % m) % s) h ∙ mod-mod_of_dvd s (to * size) (dvd-mul_right s e))
    ∙ add-mod-mod a (to * size) s

negative_rem : (i d : ℕ) → 0 < d → int_rem_euclid (negsuc i) (pos d) ≡ pos ((suc i * d - suc i) % d)
negative_rem i d some =
    int_rem_euclid_is (negsuc i) (pos d) d (suc i) (suc i * d - suc i) some refl
    (let enough : suc i ≤ suc i * d = grind arith in omega (arith, ints))

taken : (m n size : ℕ) → n ≤ m → (m - n) * size + n * size ≡ m * size
taken m n size h = let e : (m - n) + n ≡ m = omega arith in sym (add-mul (m - n) n size) ∙ ap (λ k. k * size) e

put_back : (a k p q : ℕ) → k + p ≡ q → (pos a +ℤ neg_ℤ (pos p)) +ℤ pos q ≡ pos (a + k)
put_back a k p q e = omega (arith, ints)

product_raised : (a i size d : ℕ) → 0 < d → (pos a +ℤ (negsuc i *ℤ pos size)) +ℤ pos (suc i * size * d) ≡ pos (a + (suc i * d - suc i) * size)
product_raised a i size d some =
    let enough : suc i ≤ suc i * d = grind arith in
    let same : suc i * d * size ≡ suc i * size * d = grind arith in
    put_back a ((suc i * d - suc i) * size) (suc i * size) (suc i * size * d) (taken (suc i * d) (suc i) size enough ∙ same)

negative_address : (a i size s e d : ℕ) → 0 < s → 0 < d → d ≡ s * e → address_at s a (negsuc i *ℤ pos size) ≡ (a + (suc i * d - suc i) * size) % s
negative_address a i size s e d some large h =
    ap natural
    (int_rem_euclid_is (pos a +ℤ (negsuc i *ℤ pos size)) (pos s) s (suc i * size * e) (a + (suc i * d - suc i) * size) some refl
    (ap (λ n. (pos a +ℤ (negsuc i *ℤ pos size)) +ℤ pos n) (let k : suc i * size * e * s ≡ suc i * size * (s * e) = grind arith in k ∙ ap (λ n. suc i * size * n) (sym h)) ∙ product_raised a i size d large))

by_words : (s e d : ℕ) → 0 < s → 0 < d → d ≡ s * e → (a size : ℕ) (index : ℤ) → (a + (natural (int_rem_euclid index (pos d)) * size) % d) % s ≡ address_at s a (index *ℤ pos size)
by_words s e d some large h a size (pos i) = reduced a i size s e d h
by_words s e d some large h a size (negsuc i) =
    ap (λ n. (a + (natural n * size) % d) % s) (negative_rem i d large)
    ∙ reduced a (suc i * d - suc i) size s e d h
    ∙ sym (negative_address a i size s e d some large h)

pub element_address : (t : Target) (a size : ℕ) (index : ℤ) →
    (a + ((word 64 index).bits * size) % 2 ^ 64) % 2 ^ address_width t ≡ address_at (2 ^ address_width t) a (index *ℤ pos size)
element_address Ilp32 a size index = by_words (2 ^ 32) (2 ^ 32) (2 ^ 64) (pow_pos 32) (pow_pos 64) refl a size index
element_address Lp64 a size index = by_words (2 ^ 64) 1 (2 ^ 64) (pow_pos 64) (pow_pos 64) refl a size index

-- some multiple of s brings a number up to a natural
record Raised (s : ℕ) (z : ℤ) : Type 0 where
  times : ℕ
  to : ℕ
  is : z +ℤ pos (times * s) ≡ pos to

as_many : (n s : ℕ) → 0 < s → n ≤ n * s
as_many n s some = grind arith

raised : (s : ℕ) (z : ℤ) → 0 < s → Raised s z
raised s (pos n) some = record { times = 0; to = n; is = omega (arith, ints) }
raised s (negsuc n) some = record {
  times = suc n;
  to = suc n * s - suc n;
  is = let enough = as_many (suc n) s some in omega (arith, ints);
}

both_raised : (a s i j m n : ℕ) (x y : ℤ) → (pos a +ℤ x) +ℤ pos (i * s) ≡ pos m → y +ℤ pos (j * s) ≡ pos n → (pos a +ℤ (x +ℤ y)) +ℤ pos ((i + j) * s) ≡ pos (m + n)
both_raised a s i j m n x y h k = let e : (i + j) * s ≡ i * s + j * s = add-mul i j s in omega (arith, ints)

then_raised : (a s j n : ℕ) (y : ℤ) → y +ℤ pos (j * s) ≡ pos n → (pos a +ℤ y) +ℤ pos (j * s) ≡ pos (a + n)
then_raised a s j n y k = omega (arith, ints)

rem_raised : (s : ℕ) (z : ℤ) (times to : ℕ) → 0 < s → z +ℤ pos (times * s) ≡ pos to → natural (int_rem_euclid z (pos s)) ≡ to % s
rem_raised s z times to some h = ap natural (int_rem_euclid_is z (pos s) s times to some refl h)

-- an offset after an offset
pub address_further : (s a : ℕ) (x y : ℤ) → 0 < s → address_at s a (x +ℤ y) ≡ address_at s (address_at s a x) y
address_further s a x y some =
    let first = raised s (pos a +ℤ x) some in
    let second = raised s y some in
    let at : address_at s a x ≡ first.to % s = rem_raised s (pos a +ℤ x) first.times first.to some first.is in
    rem_raised s (pos a +ℤ (x +ℤ y)) (first.times + second.times) (first.to + second.to) some (both_raised a s first.times second.times first.to second.to x y first.is second.is)
    ∙ sym (mod-add-mod first.to s second.to)
    ∙ sym (rem_raised s (pos (first.to % s) +ℤ y) second.times (first.to % s + second.to) some (then_raised (first.to % s) s second.times second.to y second.is))
    ∙ ap (λ n. address_at s n y) (sym at)
