-- What operations on numbers at a type give, beside what the operations of C give for words of the type.
use Rattle.std.specs.Prelude.{option_and_then}
use Rattle.std.specs.Option.{option_map}
use Rattle.std.specs.Int.{int_div_euclid}
use Rattle.std.proofs.Common.{◌≡◌, ℕ, ◌-◌, ◌^◌, ◌≤◌, Bool, true, false, not, ◌&&◌, ◌||◌, cond, Option, Some, None, Ok, Err, ℤ, pos, negsuc, neg_ℤ, ◌+ℤ◌, ◌-ℤ◌, ◌*ℤ◌, int_eq, int_lt, int_le, refl, sym, ap, ap₂, ◌∙◌, subst, arith}
use Rattle.std.proofs.lemmas.Bool.{false≢true, cond-true}
use Rattle.std.proofs.lemmas.Int.{ints}
use Rattle.c_values.specs.Number.{is_between, least, greatest, quotient, remainder}
use Rattle.c_values.specs.Word.{Word, IsWord, unsigned, signed, word, WordOp, word_op, word_unary, word_shift, Wadd, Wsub, Wmul, Wudiv, Wumod, Wsmod, Wneg, Wnot, Wshl, Wushr, Wsshr, is_shift, power_of_two}
use Rattle.c_values.specs.Value as V
use Rattle.c_values.specs.Path.{IsBits}
use Rattle.c_values.proofs.WordValues.{IsSigned, low, high, halves, signed_of}
use Rattle.c_values.proofs.WordResults.{unsigned_quotient, unsigned_remainder, signed_remainder, positive_between, negative_between}
use Rattle.expression_lang.specs.GuardKind as K
use Rattle.expression_lang.proofs.Filled.{word_fits}
use Rattle.expression_lang.proofs.Fine.{op_word, unary_word}
use Rattle.c_meaning.specs.CValue.{Defined, ◌>>=◌, unless, is_true}
use Rattle.generation.proofs.ExactNumbers.{number_by, word-number, number-word, same_as_number, zero_between}
use Rattle.generation.proofs.ExactArithmetic.{sum_of_words, difference_of_words, product_of_words, quotient_of_words, remainder_of_words, negation_of_word}
use Rattle.generation.proofs.ExactFits.{unsigned_in_range}

-- a word with a number, by the sign
pub record HasNumber (b : Bool) (w : ℕ) (n : ℤ) (v : V.Value) : Type 0 where
  pub bits : IsBits w v
  pub number : number_by b (V.word_in v) ≡ n

-- no value on either side, or the number of the value
abbrev pub Matches : Bool → ℕ → Option ℤ → Defined V.Value → Type 0
Matches b w None (Err k) = Unit {0}
Matches b w (Some n) (Ok v) = HasNumber b w n v
Matches b w None (Ok v) = ⊥
Matches b w (Some n) (Err k) = ⊥

-- one operation after another
pub and_then : (b b' : Bool) (w w' : ℕ) (o : Option ℤ) (r : Defined V.Value) (f : ℤ → Option ℤ) (g : V.Value → Defined V.Value) → Matches b w o r →
    ((v : V.Value) → IsBits w v → Matches b' w' (f (number_by b (V.word_in v))) (g v)) → Matches b' w' (option_and_then f o) (r >>= g)
and_then b b' w w' None (Err k) f g h q = tt
and_then b b' w w' (Some n) (Ok v) f g h q = subst (λ m. Matches b' w' (f m) (g v)) h.number (q v h.bits)
and_then _ _ _ _ _ _ _ _ h _ = absurd h

pub mapped : (b b' : Bool) (w w' : ℕ) (o : Option ℤ) (r : Defined V.Value) (f : ℤ → ℤ) (g : V.Value → V.Value) → Matches b w o r →
    ((v : V.Value) → IsBits w v → HasNumber b' w' (f (number_by b (V.word_in v))) (g v)) → Matches b' w' (option_map f o) (r >>= λ v. Ok (g v))
mapped b b' w w' None (Err k) f g h q = tt
mapped b b' w w' (Some n) (Ok v) f g h q = subst (λ m. HasNumber b' w' (f m) (g v)) h.number (q v h.bits)
mapped _ _ _ _ _ _ _ _ h _ = absurd h

-- a test that is the same on both sides
pub chosen : (b : Bool) (w : ℕ) (t u : Bool) (o o' : Option ℤ) (r r' : Defined V.Value) → t ≡ u → Matches b w o r → Matches b w o' r' → Matches b w (cond t o o') (cond u r r')
chosen b w true u o o' r r' e h k = subst (λ x. Matches b w o (cond x r r')) e h
chosen b w false u o o' r r' e h k = subst (λ x. Matches b w o' (cond x r r')) e k

clash : {A : Type 0} (b : Bool) → b ≡ true → b ≡ false → A
clash b h k = absurd (false≢true (sym k ∙ h))

-- a number if it is of the type
abbrev exactly : Bool → ℕ → ℤ → Option ℤ
exactly b w n = cond (is_between (least b w) n (greatest b w)) (Some n) None

-- ---- the range of a signed value

range_of : (w bits : ℕ) (n : ℤ) → 1 ≤ w → IsSigned w bits n → is_between (least true w) n (greatest true w) ≡ true
range_of w bits n some (low p) = positive_between (2 ^ (w - 1)) bits p
range_of w bits n some (high {c} p e) = negative_between (2 ^ (w - 1)) c (omega (arith, halves w some))

signed_in_range : (w : ℕ) (a : Word) → 1 ≤ w → IsWord w a → is_between (least true w) (signed a) (greatest true w) ≡ true
signed_in_range w a some h = range_of w a.bits (signed a) some (signed_of w a h)

-- ---- rows

module _ (b : Bool) (w : ℕ) (some : 1 ≤ w) where
  -- a number of the type
  pub of_number : (n : ℤ) → is_between (least b w) n (greatest b w) ≡ true → HasNumber b w n (V.Bits (word w n))
  of_number n h = record { bits = word_fits w n; number = number-word b w n some h }

  -- another word that is the same
  pub of_same : (r a : Word) → IsWord w a → r ≡ a → HasNumber b w (number_by b r) (V.Bits a)
  of_same r a h e = record { bits = h; number = ap (number_by b) (sym e) }

  -- a signed result that fits, or an unsigned one that wraps
  fitted_same : (n : ℤ) (r : Word) → (b ≡ false → r ≡ word w n) →
      Matches b w (cond b (exactly b w n) (Some (number_by b r))) (unless (is_between (least b w) n (greatest b w) || not b) K.Signed (Ok (V.Bits (word w n))))
  fitted_same n r e = by_sign b refl (is_between (least b w) n (greatest b w)) refl
    where
      by_sign : (s : Bool) → b ≡ s → (t : Bool) → is_between (least b w) n (greatest b w) ≡ t → Matches b w (cond s (cond t (Some n) None) (Some (number_by b r))) (unless (t || not s) K.Signed (Ok (V.Bits (word w n))))
      by_sign true h true k = of_number n k
      by_sign true h false k = tt
      by_sign false h true k = of_same r (word w n) (word_fits w n) (e h)
      by_sign false h false k = of_same r (word w n) (word_fits w n) (e h)

  -- a quotient
  divided_same : (t : Bool) (n : ℤ) (r : Word) → (b ≡ false → (is_between (least b w) n (greatest b w) ≡ true) × (r ≡ word w n)) →
      Matches b w (cond b (cond t (exactly b w n) None) (cond t (Some (number_by b r)) None)) (unless t K.Div (unless (is_between (least b w) n (greatest b w)) K.Signed (Ok (V.Bits (word w n)))))
  divided_same t n r e = by_sign b refl t (is_between (least b w) n (greatest b w)) refl
    where
      by_sign : (s : Bool) → b ≡ s → (t u : Bool) → is_between (least b w) n (greatest b w) ≡ u →
          Matches b w (cond s (cond t (cond u (Some n) None) None) (cond t (Some (number_by b r)) None)) (unless t K.Div (unless u K.Signed (Ok (V.Bits (word w n)))))
      by_sign true h true true k = of_number n k
      by_sign false h true true k = of_same r (word w n) (word_fits w n) (e h).1
      by_sign false h true false k = clash (is_between (least b w) n (greatest b w)) (e h).0 k
      by_sign _ _ _ _ _ = tt

  -- a remainder, whose quotient is of the type
  rest_same : (t : Bool) (q n : ℤ) (r : Word) → is_between (least b w) n (greatest b w) ≡ true → (b ≡ false → (is_between (least b w) q (greatest b w) ≡ true) × (r ≡ word w n)) →
      Matches b w (cond b (cond t (option_and_then (λ k. exactly b w n) (exactly b w q)) None) (cond t (Some (number_by b r)) None)) (unless t K.Div (unless (is_between (least b w) q (greatest b w)) K.Signed (Ok (V.Bits (word w n)))))
  rest_same t q n r within e = by_sign b refl t (is_between (least b w) q (greatest b w)) refl (is_between (least b w) n (greatest b w)) within
    where
      by_sign : (s : Bool) → b ≡ s → (t u : Bool) → is_between (least b w) q (greatest b w) ≡ u → (x : Bool) → x ≡ true →
          Matches b w (cond s (cond t (option_and_then (λ k. cond x (Some n) None) (cond u (Some q) None)) None) (cond t (Some (number_by b r)) None)) (unless t K.Div (unless u K.Signed (Ok (V.Bits (word w n)))))
      by_sign true h true true k true d = of_number n within
      by_sign true h true true k false d = absurd (false≢true d)
      by_sign false h true true k x d = of_same r (word w n) (word_fits w n) (e h).1
      by_sign false h true false k x d = clash (is_between (least b w) q (greatest b w)) (e h).0 k
      by_sign _ _ _ _ _ _ _ = tt

  module _ (x : Word) (h : IsWord w x) where
    back : word w (number_by b x) ≡ x
    back = word-number b w x h

    pub negation_same : Matches b w (cond b (exactly b w (neg_ℤ (number_by b x))) (Some (number_by b (word_unary Wneg (word w (number_by b x))))))
        (unless (is_between (least b w) (neg_ℤ (number_by b x)) (greatest b w) || not b) K.Signed (Ok (V.Bits (word w (neg_ℤ (number_by b x))))))
    negation_same = fitted_same (neg_ℤ (number_by b x)) (word_unary Wneg (word w (number_by b x))) (λ e. ap (word_unary Wneg) back ∙ negation_of_word w some x h b (λ t. clash b t e))

    pub complement_same : HasNumber b w (number_by b (word_unary Wnot (word w (number_by b x)))) (V.Bits (word_unary Wnot x))
    complement_same = of_same (word_unary Wnot (word w (number_by b x))) (word_unary Wnot x) (unary_word w Wnot x h) (ap (word_unary Wnot) back)

    module _ (y : Word) (k : IsWord w y) where
      back_too : word w (number_by b y) ≡ y
      back_too = word-number b w y k

      pub sum_same : Matches b w (cond b (exactly b w (number_by b x +ℤ number_by b y)) (Some (number_by b (word_op Wadd (word w (number_by b x)) (word w (number_by b y))))))
          (unless (is_between (least b w) (number_by b x +ℤ number_by b y) (greatest b w) || not b) K.Signed (Ok (V.Bits (word w (number_by b x +ℤ number_by b y)))))
      sum_same = fitted_same _ _ (λ e. ap₂ (word_op Wadd) back back_too ∙ sum_of_words w some x y h k b (λ t. clash b t e))

      pub difference_same : Matches b w (cond b (exactly b w (number_by b x -ℤ number_by b y)) (Some (number_by b (word_op Wsub (word w (number_by b x)) (word w (number_by b y))))))
          (unless (is_between (least b w) (number_by b x -ℤ number_by b y) (greatest b w) || not b) K.Signed (Ok (V.Bits (word w (number_by b x -ℤ number_by b y)))))
      difference_same = fitted_same _ _ (λ e. ap₂ (word_op Wsub) back back_too ∙ difference_of_words w some x y h k b (λ t. clash b t e))

      pub product_same : Matches b w (cond b (exactly b w (number_by b x *ℤ number_by b y)) (Some (number_by b (word_op Wmul (word w (number_by b x)) (word w (number_by b y))))))
          (unless (is_between (least b w) (number_by b x *ℤ number_by b y) (greatest b w) || not b) K.Signed (Ok (V.Bits (word w (number_by b x *ℤ number_by b y)))))
      product_same = fitted_same _ _ (λ e. ap₂ (word_op Wmul) back back_too ∙ product_of_words w some x y h k b (λ t. clash b t e))

      unsigned_fits : b ≡ false → is_between (least b w) (quotient (number_by b x) (number_by b y)) (greatest b w) ≡ true
      unsigned_fits e =
          subst (λ s. is_between (least s w) (quotient (number_by s x) (number_by s y)) (greatest s w) ≡ true) (sym e)
          (subst (λ n. is_between (least false w) n (greatest false w) ≡ true) (unsigned_quotient w x y h k) (unsigned_in_range w (word_op Wudiv x y) (op_word w Wudiv x y h)))

      pub quotient_same : Matches b w
          (cond b (cond (not (int_eq (number_by b y) (pos 0))) (exactly b w (quotient (number_by b x) (number_by b y))) None)
          (cond (not (int_eq (number_by b y) (pos 0))) (Some (number_by b (word_op Wudiv (word w (number_by b x)) (word w (number_by b y))))) None))
          (unless (not (int_eq (number_by b y) (pos 0))) K.Div (unless (is_between (least b w) (quotient (number_by b x) (number_by b y)) (greatest b w)) K.Signed (Ok (V.Bits (word w (quotient (number_by b x) (number_by b y)))))))
      quotient_same =
          divided_same (not (int_eq (number_by b y) (pos 0))) (quotient (number_by b x) (number_by b y)) (word_op Wudiv (word w (number_by b x)) (word w (number_by b y)))
          (λ e. (unsigned_fits e, ap₂ (word_op Wudiv) back back_too ∙ subst (λ s. word_op Wudiv x y ≡ word w (quotient (number_by s x) (number_by s y))) (sym e) (quotient_of_words w some x y h k false)))

      remainder_in_range : (s : Bool) → is_between (least s w) (remainder (number_by s x) (number_by s y)) (greatest s w) ≡ true
      remainder_in_range true = subst (λ n. is_between (least true w) n (greatest true w) ≡ true) (signed_remainder w some x y h) (signed_in_range w (word_op Wsmod x y) some (op_word w Wsmod x y h))
      remainder_in_range false = subst (λ n. is_between (least false w) n (greatest false w) ≡ true) (unsigned_remainder w x y h k) (unsigned_in_range w (word_op Wumod x y) (op_word w Wumod x y h))

      pub remainder_same : Matches b w
          (cond b (cond (not (int_eq (number_by b y) (pos 0))) (option_and_then (λ q. exactly b w (remainder (number_by b x) (number_by b y))) (exactly b w (quotient (number_by b x) (number_by b y)))) None)
          (cond (not (int_eq (number_by b y) (pos 0))) (Some (number_by b (word_op Wumod (word w (number_by b x)) (word w (number_by b y))))) None))
          (unless (not (int_eq (number_by b y) (pos 0))) K.Div (unless (is_between (least b w) (quotient (number_by b x) (number_by b y)) (greatest b w)) K.Signed (Ok (V.Bits (word w (remainder (number_by b x) (number_by b y)))))))
      remainder_same =
          rest_same (not (int_eq (number_by b y) (pos 0))) (quotient (number_by b x) (number_by b y)) (remainder (number_by b x) (number_by b y)) (word_op Wumod (word w (number_by b x)) (word w (number_by b y)))
          (remainder_in_range b)
          (λ e. (unsigned_fits e, ap₂ (word_op Wumod) back back_too ∙ subst (λ s. word_op Wumod x y ≡ word w (remainder (number_by s x) (number_by s y))) (sym e) (remainder_of_words w some x y h k false)))

      pub combined_same : (op : WordOp) → HasNumber b w (number_by b (word_op op (word w (number_by b x)) (word w (number_by b y)))) (V.Bits (word_op op x y))
      combined_same op = of_same _ (word_op op x y) (op_word w op x y h) (ap₂ (word_op op) back back_too)

    -- ---- shifts by a count

    not_less : (n : ℤ) → int_lt n (pos 0) ≡ not (int_le (pos 0) n)
    not_less (pos m) = grind (arith, ints)
    not_less (negsuc m) = refl

    module _ (z : ℤ) where
      left_unsigned : b ≡ false → is_shift w z ≡ true → word_shift Wshl (word w (number_by b x)) z ≡ word w (number_by b x *ℤ power_of_two z)
      left_unsigned e c =
          cond-true (is_shift w z) (word w (unsigned (word w (number_by b x)) *ℤ power_of_two z)) (word w (pos 0)) c
          ∙ ap (λ a. word w (unsigned a *ℤ power_of_two z)) back ∙ ap (λ s. word w (number_by s x *ℤ power_of_two z)) (sym e)

      pub left_same : Matches b w
          (cond (is_shift w z) (cond b (cond (int_lt (number_by b x) (pos 0)) None (exactly b w (number_by b x *ℤ power_of_two z))) (Some (number_by b (word_shift Wshl (word w (number_by b x)) z)))) None)
          (unless (is_shift w z) K.Shift (unless (not b || (int_le (pos 0) (number_by b x) && is_between (least b w) (number_by b x *ℤ power_of_two z) (greatest b w))) K.Shift (Ok (V.Bits (word w (number_by b x *ℤ power_of_two z))))))
      left_same =
          subst (λ t. Matches b w
          (cond (is_shift w z) (cond b (cond t None (exactly b w (number_by b x *ℤ power_of_two z))) (Some (number_by b (word_shift Wshl (word w (number_by b x)) z)))) None)
          (unless (is_shift w z) K.Shift (unless (not b || (int_le (pos 0) (number_by b x) && is_between (least b w) (number_by b x *ℤ power_of_two z) (greatest b w))) K.Shift (Ok (V.Bits (word w (number_by b x *ℤ power_of_two z)))))))
          (sym (not_less (number_by b x)))
          (by_test (is_shift w z) refl b refl (int_le (pos 0) (number_by b x)) (is_between (least b w) (number_by b x *ℤ power_of_two z) (greatest b w)) refl)
        where
          by_test : (c : Bool) → is_shift w z ≡ c → (s : Bool) → b ≡ s → (t u : Bool) → is_between (least b w) (number_by b x *ℤ power_of_two z) (greatest b w) ≡ u →
              Matches b w (cond c (cond s (cond (not t) None (cond u (Some (number_by b x *ℤ power_of_two z)) None)) (Some (number_by b (word_shift Wshl (word w (number_by b x)) z)))) None)
              (unless c K.Shift (unless (not s || (t && u)) K.Shift (Ok (V.Bits (word w (number_by b x *ℤ power_of_two z))))))
          by_test true c true e true true k = of_number (number_by b x *ℤ power_of_two z) k
          by_test true c false e t u k = of_same _ (word w (number_by b x *ℤ power_of_two z)) (word_fits w _) (left_unsigned e c)
          by_test _ _ _ _ _ _ _ = tt

      right_word : is_shift w z ≡ true → (s : Bool) → b ≡ s → cond s (word_shift Wsshr (word w (number_by b x)) z) (word_shift Wushr (word w (number_by b x)) z) ≡ word w (int_div_euclid (number_by b x) (power_of_two z))
      right_word c true e =
          cond-true (is_shift w z) (word w (int_div_euclid (signed (word w (number_by b x))) (power_of_two z))) _ c
          ∙ ap (λ a. word w (int_div_euclid (signed a) (power_of_two z))) back ∙ ap (λ s. word w (int_div_euclid (number_by s x) (power_of_two z))) (sym e)
      right_word c false e =
          cond-true (is_shift w z) (word w (int_div_euclid (unsigned (word w (number_by b x))) (power_of_two z))) (word w (pos 0)) c
          ∙ ap (λ a. word w (int_div_euclid (unsigned a) (power_of_two z))) back ∙ ap (λ s. word w (int_div_euclid (number_by s x) (power_of_two z))) (sym e)

      pub right_same : Matches b w
          (cond (is_shift w z) (Some (cond b (number_by b (word_shift Wsshr (word w (number_by b x)) z)) (number_by b (word_shift Wushr (word w (number_by b x)) z)))) None)
          (unless (is_shift w z) K.Shift (Ok (V.Bits (word w (int_div_euclid (number_by b x) (power_of_two z))))))
      right_same = by_test (is_shift w z) refl b refl
        where
          by_test : (c : Bool) → is_shift w z ≡ c → (s : Bool) → b ≡ s →
              Matches b w (cond c (Some (cond s (number_by b (word_shift Wsshr (word w (number_by b x)) z)) (number_by b (word_shift Wushr (word w (number_by b x)) z)))) None)
              (unless c K.Shift (Ok (V.Bits (word w (int_div_euclid (number_by b x) (power_of_two z))))))
          by_test true c true e = of_same (word_shift Wsshr (word w (number_by b x)) z) _ (word_fits w _) (right_word c true e)
          by_test true c false e = of_same (word_shift Wushr (word w (number_by b x)) z) _ (word_fits w _) (right_word c false e)
          by_test false c s e = tt

  -- a number is zero where its word is
  pub zero_same : (v : V.Value) → IsBits w v → not (int_eq (number_by b (V.word_in v)) (pos 0)) ≡ is_true v
  zero_same v h = ap not (sym (same_as_number b w v (pos 0) some h (zero_between b w)) ∙ same_as_number false w v (pos 0) some h (zero_between false w))
