-- Conversions: a word of another width has the number that the word was at its type.
use Rattle.std.proofs.Common.{◌≡◌, ℕ, suc, ◌+◌, ◌-◌, ◌*◌, ◌^◌, ◌<◌, ◌≤◌, ◌⊎◌, inl, inr, ◌==◌, nat_lt, Bool, true, false, cond, ℤ, pos, negsuc, ◌+ℤ◌, refl, sym, ap, ◌∙◌, subst, arith, pow-add, eqb-true, ltb-true}
use Rattle.std.proofs.lemmas.Int.{ints}
use Rattle.std.proofs.lemmas.Bool.{cases_Bool, cond-true, cond-false}
use Rattle.c_values.specs.Types.{CType, Integer, Ptr}
use Rattle.c_values.specs.Word.{Word, IsWord, unsigned, signed, word}
use Rattle.c_values.specs.Value.{Value, Bits, word_in}
use Rattle.c_values.specs.Layout.{Layout, is_scalar, scalar_width}
use Rattle.c_values.specs.Path.{IsBits}
use Rattle.c_values.proofs.Modulo.{AreAlike, word_alike}
use Rattle.c_values.proofs.WordValues.{IsSigned, low, high, signed_of}
use Rattle.expression_lang.specs.Evaluation.{Env, State}
use Rattle.expression_lang.specs.Evaluation as E
use Rattle.expression_lang.specs.Expression as X
use Rattle.c_meaning.specs.CValue.{converted, number_of_type}
use Rattle.generation.specs.Guards.{cast_to, conversion, is_signed_type}
use Rattle.c_meaning.specs.Fitting.{IsOfType}
use Rattle.expression_lang.proofs.Filled.{word_fits}
use Rattle.expression_lang.proofs.Fine.{bits_word}
use Rattle.generation.proofs.ExactNumbers.{number_by, number_of_type_is, bits_are, word-number}

lacking : (bits c m : ℕ) → bits + suc c ≡ m → pos bits +ℤ pos 0 ≡ negsuc c +ℤ pos m
lacking bits c m e = omega (arith, ints)

-- at a smaller width the signed and the unsigned value have one word
narrow_alike : (to from bits : ℕ) (n : ℤ) → to ≤ from → IsSigned from bits n → AreAlike to (pos bits) n
narrow_alike to from bits n h (low p) = record { left = 0; right = 0; same = refl }
narrow_alike to from bits n h (high {c} p e) =
    let split : 2 ^ (from - to) * 2 ^ to ≡ 2 ^ from = sym (pow-add 2 (from - to) to) ∙ ap (λ k. 2 ^ k) (omega arith) in
    let none : 0 * 2 ^ to ≡ 0 = omega arith in
    record { left = 0; right = 2 ^ (from - to); same = ap (λ k. pos bits +ℤ pos k) none ∙ lacking bits c (2 ^ from) e ∙ ap (λ k. negsuc c +ℤ pos k) (sym split) }

narrowed : (b : Bool) (to from : ℕ) (a : Word) → to ≤ from → IsWord from a → word to (unsigned a) ≡ word to (number_by b a)
narrowed true to from a h k = word_alike to (unsigned a) (signed a) (narrow_alike to from a.bits (signed a) h (signed_of from a k))
narrowed false to from a h k = refl

module _ (l : Layout) (env : Env) (s : State) where
  cast_value : (to from : ℕ) (b : Bool) (e : X.Exp) (v : Value) → E.value l env s e ≡ v → IsBits from v → E.value l env s (cast_to to from b e) ≡ Bits (word to (number_by b (word_in v)))
  cast_value to from b e v h k = by_cases (cases_Bool (to == from)) (cases_Bool (nat_lt to from))
    where
      wider : (b : Bool) → E.value l env s (cond b (X.Cast X.Sext to e) (X.Cast X.Zext to e)) ≡ Bits (word to (number_by b (word_in v)))
      wider true = ap (λ u. Bits (word to (signed (word_in u)))) h
      wider false = ap (λ u. Bits (word to (unsigned (word_in u)))) h

      narrower : E.value l env s (X.Cast X.Trunc to e) ≡ Bits (word to (unsigned (word_in v)))
      narrower = ap (λ u. Bits (word to (unsigned (word_in u)))) h

      other : X.Exp
      other = cond (nat_lt to from) (X.Cast X.Trunc to e) (cond b (X.Cast X.Sext to e) (X.Cast X.Zext to e))

      by_cases : ((to == from) ≡ true) ⊎ ((to == from) ≡ false) → (nat_lt to from ≡ true) ⊎ (nat_lt to from ≡ false) → E.value l env s (cast_to to from b e) ≡ Bits (word to (number_by b (word_in v)))
      by_cases (inl p) q =
          ap (E.value l env s) (cond-true (to == from) e other p) ∙ h ∙ bits_are from v k
          ∙ ap Bits (sym (word-number b from (word_in v) (bits_word from v k)))
          ∙ ap (λ n. Bits (word n (number_by b (word_in v)))) (sym (eqb-true to from p))
      by_cases (inr p) (inl q) =
          let lt : to < from = ltb-true to from q in
          ap (E.value l env s) (cond-false (to == from) e other p ∙ cond-true (nat_lt to from) (X.Cast X.Trunc to e) (cond b (X.Cast X.Sext to e) (X.Cast X.Zext to e)) q)
          ∙ narrower ∙ ap Bits (narrowed b to from (word_in v) (omega arith) (bits_word from v k))
      by_cases (inr p) (inr q) =
          ap (E.value l env s) (cond-false (to == from) e other p ∙ cond-false (nat_lt to from) (X.Cast X.Trunc to e) (cond b (X.Cast X.Sext to e) (X.Cast X.Zext to e)) q)
          ∙ wider b

  converted_is : (to from : CType) (v : Value) → is_scalar to ≡ true → converted l to from v ≡ Bits (word (scalar_width l.target to) (number_of_type from v))
  converted_is (Integer i) from v h = refl
  converted_is (Ptr t) from v h = refl
  converted_is _ from v h = absurd cc

  pub conversion_exact : (to from : CType) (e : X.Exp) (v : Value) → is_scalar to ≡ true → E.value l env s e ≡ v → IsOfType l from v →
      (E.value l env s (conversion l.target to from e) ≡ converted l to from v) × IsOfType l to (converted l to from v)
  conversion_exact to from e v h k p =
      let is = converted_is to from v h ∙ ap (λ n. Bits (word (scalar_width l.target to) n)) (number_of_type_is from v) in (
        cast_value (scalar_width l.target to) (scalar_width l.target from) (is_signed_type from) e v k p ∙ sym is,
        subst (IsOfType l to) (sym is) (word_fits (scalar_width l.target to) (number_by (is_signed_type from) (word_in v))),
      )
