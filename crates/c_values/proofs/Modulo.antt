-- Words stand for whole numbers modulo 2^width.
use Rattle.std.proofs.Common.{◌≡◌, ℕ, suc, ◌+◌, ◌-◌, ◌*◌, ◌^◌, ◌<◌, ◌≤◌, ℤ, pos, negsuc, ◌+ℤ◌, refl, sym, ap, ◌∙◌, arith}
use Rattle.std.proofs.Math.Nat.{add-mul-mod_self_right, mod-eq_of_lt}
use Rattle.std.proofs.lemmas.Int.{ints, int_rem_euclid_is}
use Rattle.std.proofs.lemmas.Nat.{pow_pos}
use Rattle.std.specs.Int.{int_rem_euclid}
use Rattle.c_values.specs.Number.{natural}
use Rattle.c_values.specs.Word.{word}

-- some multiple of d brings a number up to a natural
record Raised (d : ℕ) (n : ℤ) : Type 0 where
  by : ℕ
  to : ℕ
  is : n +ℤ pos (by * d) ≡ pos to

raised_negative : (a d : ℕ) → 0 < d → negsuc a +ℤ pos (suc a * d) ≡ pos (suc a * d - suc a)
raised_negative a d h = let enough : suc a ≤ suc a * d = grind arith in omega (arith, ints)

raised : (d : ℕ) (n : ℤ) → 0 < d → Raised d n
raised d (pos a) h = record { by = 0; to = a; is = omega (arith, ints) }
raised d (negsuc a) h = record { by = suc a; to = suc a * d - suc a; is = raised_negative a d h }

raised_more : (n : ℤ) (j k d m : ℕ) → n +ℤ pos (k * d) ≡ pos m → (n +ℤ pos (j * d)) +ℤ pos (k * d) ≡ pos (m + j * d)
raised_more n j k d m e = omega (arith, ints)

rem-add : (d : ℕ) (n : ℤ) (j : ℕ) → 0 < d → int_rem_euclid (n +ℤ pos (j * d)) (pos d) ≡ int_rem_euclid n (pos d)
rem-add d n j h =
    let r = raised d n h in
    int_rem_euclid_is (n +ℤ pos (j * d)) (pos d) d r.by (r.to + j * d) h refl (raised_more n j r.by d r.to r.is)
    ∙ ap pos (add-mul-mod_self_right r.to j d)
    ∙ sym (int_rem_euclid_is n (pos d) d r.by r.to h refl r.is)

pub word-add : (width : ℕ) (n : ℤ) (j : ℕ) → word width (n +ℤ pos (j * 2 ^ width)) ≡ word width n
word-add width n j = ap (λ r. record { width = width; bits = natural r }) (rem-add (2 ^ width) n j (pow_pos width))

-- two numbers that differ by a multiple of 2^width
pub record AreAlike (width : ℕ) (m n : ℤ) : Type 0 where
  pub left : ℕ
  pub right : ℕ
  pub same : m +ℤ pos (left * 2 ^ width) ≡ n +ℤ pos (right * 2 ^ width)

pub word_alike : (width : ℕ) (m n : ℤ) → AreAlike width m n → word width m ≡ word width n
word_alike width m n h = sym (word-add width m h.left) ∙ ap (word width) h.same ∙ word-add width n h.right

-- the word of a natural below 2^width
pub word_small : (width n : ℕ) → n < 2 ^ width → word width (pos n) ≡ record { width = width; bits = n }
word_small width n h = ap (λ b. record { width = width; bits = b }) (mod-eq_of_lt h)
