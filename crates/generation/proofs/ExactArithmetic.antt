-- Word operations give the words of the results of number operations, at the numbers that the words are at a type.
use Rattle.std.proofs.Common.{◌≡◌, ℕ, ◌-◌, ◌≤◌, Bool, true, false, cond, ℤ, neg_ℤ, ◌+ℤ◌, ◌-ℤ◌, ◌*ℤ◌, int_lt, int_le, refl, sym, ap, ◌∙◌, subst}
use Rattle.c_values.specs.Number.{quotient, remainder, is_between, least, greatest}
use Rattle.c_values.specs.Word.{Word, IsWord, unsigned, signed, word, word_op, Wadd, Wsub, Wmul, Wudiv, Wumod, Wsdiv, Wsmod, word_unary, Wneg, word_test, Wult, Wule, Wslt, Wsle}
use Rattle.c_values.proofs.WordValues.{word-signed}
use Rattle.c_values.proofs.WordResults.{signed_sum, signed_difference, signed_product, signed_negation}
use Rattle.expression_lang.proofs.Filled.{word_fits}
use Rattle.expression_lang.proofs.Fine.{op_word, unary_word}
use Rattle.generation.proofs.ExactNumbers.{number_by, word_at}

-- a result is a word of the width
result_fits : (width : ℕ) (a : Word) (n : ℤ) → IsWord width a → IsWord width (word a.width n)
result_fits width a n h = subst (IsWord width) (sym (word_at width a n h)) (word_fits width n)

either_fits : (width : ℕ) (a : Word) (b : Bool) (m n : ℤ) → IsWord width a → IsWord width (cond b (word a.width m) (word a.width n))
either_fits width a true m n h = result_fits width a m h
either_fits width a false m n h = result_fits width a n h

-- a word with an exact signed value
by_value : (width : ℕ) (r : Word) (n : ℤ) → IsWord width r → signed r ≡ n → r ≡ word width n
by_value width r n h e = sym (word-signed width r h) ∙ ap (word width) e

-- of signed words the result is of the width
module _ (width : ℕ) (some : 1 ≤ width) (a b : Word) (h : IsWord width a) (k : IsWord width b) where
  pub sum_of_words : (s : Bool) → (s ≡ true → is_between (least true width) (signed a +ℤ signed b) (greatest true width) ≡ true) → word_op Wadd a b ≡ word width (number_by s a +ℤ number_by s b)
  sum_of_words true e = by_value width (word_op Wadd a b) (signed a +ℤ signed b) (op_word width Wadd a b h) (signed_sum width some a b h k (e refl))
  sum_of_words false e = word_at width a (unsigned a +ℤ unsigned b) h

  pub difference_of_words : (s : Bool) → (s ≡ true → is_between (least true width) (signed a -ℤ signed b) (greatest true width) ≡ true) → word_op Wsub a b ≡ word width (number_by s a -ℤ number_by s b)
  difference_of_words true e = by_value width (word_op Wsub a b) (signed a -ℤ signed b) (op_word width Wsub a b h) (signed_difference width some a b h k (e refl))
  difference_of_words false e = word_at width a (unsigned a -ℤ unsigned b) h

  pub product_of_words : (s : Bool) → (s ≡ true → is_between (least true width) (signed a *ℤ signed b) (greatest true width) ≡ true) → word_op Wmul a b ≡ word width (number_by s a *ℤ number_by s b)
  product_of_words true e = by_value width (word_op Wmul a b) (signed a *ℤ signed b) (op_word width Wmul a b h) (signed_product width some a b h k (e refl))
  product_of_words false e = word_at width a (unsigned a *ℤ unsigned b) h

  pub quotient_of_words : (s : Bool) → word_op (cond s Wsdiv Wudiv) a b ≡ word width (quotient (number_by s a) (number_by s b))
  quotient_of_words true = word_at width a (quotient (signed a) (signed b)) h
  quotient_of_words false = word_at width a (quotient (unsigned a) (unsigned b)) h

  pub remainder_of_words : (s : Bool) → word_op (cond s Wsmod Wumod) a b ≡ word width (remainder (number_by s a) (number_by s b))
  remainder_of_words true = word_at width a (remainder (signed a) (signed b)) h
  remainder_of_words false = word_at width a (remainder (unsigned a) (unsigned b)) h

pub negation_of_word : (width : ℕ) → 1 ≤ width → (a : Word) → IsWord width a → (s : Bool) → (s ≡ true → is_between (least true width) (neg_ℤ (signed a)) (greatest true width) ≡ true) →
    word_unary Wneg a ≡ word width (neg_ℤ (number_by s a))
negation_of_word width some a h true e = by_value width (word_unary Wneg a) (neg_ℤ (signed a)) (unary_word width Wneg a h) (signed_negation width some a h (e refl))
negation_of_word width some a h false e = word_at width a (neg_ℤ (unsigned a)) h

pub less_of_words : (s : Bool) (a b : Word) → word_test (cond s Wslt Wult) a b ≡ int_lt (number_by s a) (number_by s b)
less_of_words true a b = refl
less_of_words false a b = refl

pub at_most_of_words : (s : Bool) (a b : Word) → word_test (cond s Wsle Wule) a b ≡ int_le (number_by s a) (number_by s b)
at_most_of_words true a b = refl
at_most_of_words false a b = refl
