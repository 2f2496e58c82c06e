-- Addresses modulo the space: to take the remainder on the way changes nothing.
use Rattle.std.specs.Prelude.{◌/◌, ◌%◌}
use Rattle.std.proofs.Common.{◌≡◌, ℕ, zero, suc, ◌+◌, ◌-◌, ◌*◌, ◌^◌, ◌<◌, ℤ, pos, negsuc, neg_ℤ, ◌+ℤ◌, ◌-ℤ◌, ◌*ℤ◌, refl, sym, ap, ap₂, ◌∙◌, arith}
use Rattle.std.proofs.lemmas.Int.{ints}
use Rattle.std.proofs.lemmas.Nat.{pow_pos, mod_below}
use Rattle.std.proofs.Math.IntN.{neg_ℤ-neg_ℤ, pos-*ℤ-pos, pos-*ℤ-negsuc, +ℤ_comm}
use Rattle.std.proofs.Math.Nat.{mul_assoc}
use Rattle.c_values.specs.Word.{Word, IsWord, unsigned, word, word_op, Wadd, Wsub, Wmul}
use Rattle.c_values.proofs.Modulo.{AreAlike, word_alike, word_small}
use Rattle.c_values.proofs.WordValues.{word-unsigned}

split : (a d : ℕ) → 0 < d → a % d + a / d * d ≡ a
split a d h = omega arith

split_positive : (a d : ℕ) → 0 < d → pos (a % d) +ℤ pos (a / d * d) ≡ pos a +ℤ pos (0 * d)
split_positive a d h = let e = split a d h in omega (arith, ints)

split_negative : (a d : ℕ) → 0 < d → pos (d - 1 - a % d) +ℤ pos (0 * d) ≡ negsuc a +ℤ pos (suc (a / d) * d)
split_negative a d h =
    let e = split a d h in
    let r = mod_below a d h in
    let s : suc (a / d) * d ≡ d + a / d * d = omega arith in
    omega (arith, ints)

-- the unsigned value of a number's word differs from the number by a multiple
again : (w : ℕ) (n : ℤ) → AreAlike w (unsigned (word w n)) n
again w (pos a) = record { left = a / 2 ^ w; right = 0; same = split_positive a (2 ^ w) (pow_pos w) }
again w (negsuc a) = record { left = 0; right = suc (a / 2 ^ w); same = split_negative a (2 ^ w) (pow_pos w) }

more_alike : (x m n : ℤ) (j k : ℕ) → m +ℤ pos j ≡ n +ℤ pos k → (x +ℤ m) +ℤ pos j ≡ (x +ℤ n) +ℤ pos k
more_alike x m n j k e = omega (arith, ints)

less_alike : (x m n : ℤ) (j k : ℕ) → m +ℤ pos j ≡ n +ℤ pos k → (x -ℤ m) +ℤ pos k ≡ (x -ℤ n) +ℤ pos j
less_alike x m n j k e = omega (arith, ints)

sum_again : (w : ℕ) (x n : ℤ) → word w (x +ℤ unsigned (word w n)) ≡ word w (x +ℤ n)
sum_again w x n =
    let a = again w n in word_alike w (x +ℤ unsigned (word w n)) (x +ℤ n) (record { left = a.left; right = a.right; same = more_alike x (unsigned (word w n)) n (a.left * 2 ^ w) (a.right * 2 ^ w) a.same })

difference_again : (w : ℕ) (x n : ℤ) → word w (x -ℤ unsigned (word w n)) ≡ word w (x -ℤ n)
difference_again w x n =
    let a = again w n in word_alike w (x -ℤ unsigned (word w n)) (x -ℤ n) (record { left = a.right; right = a.left; same = less_alike x (unsigned (word w n)) n (a.left * 2 ^ w) (a.right * 2 ^ w) a.same })

pub first_again : (w : ℕ) (n y : ℤ) → word w (unsigned (word w n) +ℤ y) ≡ word w (n +ℤ y)
first_again w n y = ap (word w) (+ℤ_comm (unsigned (word w n)) y) ∙ sum_again w y n ∙ ap (word w) (+ℤ_comm y n)

-- a multiple of both
negative_sum : (m n c k : ℕ) → pos m +ℤ pos c ≡ negsuc n +ℤ pos k → m + c + suc n ≡ k
negative_sum m n c k e = omega (arith, ints)

positive_sum : (m n c k : ℕ) → pos m +ℤ pos c ≡ pos n +ℤ pos k → m + c ≡ n + k
positive_sum m n c k e = omega (arith, ints)

back_positive : (m n c k : ℕ) → m + c ≡ n + k → pos m +ℤ pos c ≡ pos n +ℤ pos k
back_positive m n c k e = omega (arith, ints)

back_negative : (m n c k : ℕ) → m + c + n ≡ k → pos m +ℤ pos c ≡ neg_ℤ (pos n) +ℤ pos k
back_negative m n c k e = omega (arith, ints)

spread : (s a b c d : ℕ) → a + b + c ≡ d → s * a + s * b + s * c ≡ s * d
spread s a b c d e = let h : s * (a + b + c) ≡ s * d = ap (λ x. s * x) e in grind arith

spread_two : (s a b c d : ℕ) → a + b ≡ c + d → s * a + s * b ≡ s * c + s * d
spread_two s a b c d e = let h : s * (a + b) ≡ s * (c + d) = ap (λ x. s * x) e in grind arith

times_alike : (w s m : ℕ) (n : ℤ) → AreAlike w (pos m) n → AreAlike w (pos s *ℤ pos m) (pos s *ℤ n)
times_alike w s m (pos n) h = record {
  left = s * h.left;
  right = s * h.right;
  same = ap₂ (λ x y. x +ℤ pos y) (pos-*ℤ-pos s m) (mul_assoc s h.left (2 ^ w))
      ∙ back_positive (s * m) (s * n) (s * (h.left * 2 ^ w)) (s * (h.right * 2 ^ w)) (spread_two s m (h.left * 2 ^ w) n (h.right * 2 ^ w) (positive_sum m n (h.left * 2 ^ w) (h.right * 2 ^ w) h.same))
      ∙ sym (ap₂ (λ x y. x +ℤ pos y) (pos-*ℤ-pos s n) (mul_assoc s h.right (2 ^ w)));
}
times_alike w s m (negsuc n) h = record {
  left = s * h.left;
  right = s * h.right;
  same = ap₂ (λ x y. x +ℤ pos y) (pos-*ℤ-pos s m) (mul_assoc s h.left (2 ^ w))
      ∙ back_negative (s * m) (s * suc n) (s * (h.left * 2 ^ w)) (s * (h.right * 2 ^ w)) (spread s m (h.left * 2 ^ w) (suc n) (h.right * 2 ^ w) (negative_sum m n (h.left * 2 ^ w) (h.right * 2 ^ w) h.same))
      ∙ sym (ap₂ (λ x y. x +ℤ pos y) (pos-*ℤ-negsuc s n) (mul_assoc s h.right (2 ^ w)));
}

-- so many bytes for a number of objects
bytes_again : (w s : ℕ) (n : ℤ) → s < 2 ^ w → word_op Wmul (word w (pos s)) (word w n) ≡ word w (pos s *ℤ n)
bytes_again w s n h =
    ap (λ a. word w (unsigned a *ℤ unsigned (word w n))) (word_small w s h)
    ∙ word_alike w (pos s *ℤ unsigned (word w n)) (pos s *ℤ n) (times_alike w s (word w n).bits n (again w n))

negated_product : (s : ℕ) (n : ℤ) → pos s *ℤ neg_ℤ n ≡ neg_ℤ (pos s *ℤ n)
negated_product s (pos zero) = let e : s * 0 ≡ 0 = omega arith in ap pos e ∙ sym (ap (λ k. neg_ℤ (pos k)) e)
negated_product s (pos (suc n)) = refl
negated_product s (negsuc n) = sym (neg_ℤ-neg_ℤ (pos (s * suc n)))

less_is : (x m : ℤ) → x -ℤ m ≡ x +ℤ neg_ℤ m
less_is x m = omega (arith, ints)

module _ (w : ℕ) (a : Word) (h : IsWord w a) where
  -- an address that moves by bytes
  pub moved_bytes : (n : ℤ) → word_op Wadd (word w (unsigned a)) (word w n) ≡ word w (unsigned a +ℤ n)
  moved_bytes n = first_again w (unsigned a) (unsigned (word w n)) ∙ sum_again w (unsigned a) n

  pub moved_on : (s : ℕ) (n : ℤ) → s < 2 ^ w → word_op Wadd (word w (unsigned a)) (word_op Wmul (word w (pos s)) (word w n)) ≡ word w (unsigned a +ℤ pos s *ℤ n)
  moved_on s n e = ap (λ b. word_op Wadd (word w (unsigned a)) b) (bytes_again w s n e) ∙ moved_bytes (pos s *ℤ n)

  pub moved_back : (s : ℕ) (n : ℤ) → s < 2 ^ w → word_op Wsub (word w (unsigned a)) (word_op Wmul (word w (pos s)) (word w n)) ≡ word w (unsigned a +ℤ pos s *ℤ neg_ℤ n)
  moved_back s n e =
      ap (λ b. word_op Wsub (word w (unsigned a)) b) (bytes_again w s n e)
      ∙ ap (λ c. word w (unsigned c -ℤ unsigned (word w (pos s *ℤ n)))) (word-unsigned w a h)
      ∙ difference_again w (unsigned a) (pos s *ℤ n)
      ∙ ap (word w) (less_is (unsigned a) (pos s *ℤ n) ∙ ap (λ k. unsigned a +ℤ k) (sym (negated_product s n)))
