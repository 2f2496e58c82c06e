-- Words and the numbers that they are at a type: a word of a width is the word of its number, and words are the same where
-- their numbers are.
use Rattle.std.proofs.Common.{◌≡◌, ℕ, zero, suc, ◌-◌, ◌^◌, ◌<◌, ◌≤◌, ◌==◌, Bool, true, false, cond, ℤ, pos, neg_ℤ, int_eq, refl, sym, ap, ap₂, ◌∙◌, arith, eq-eqb, eqb-true}
use Rattle.std.proofs.lemmas.Nat.{pow_pos}
use Rattle.std.proofs.lemmas.Bool.{and_parts, and_from}
use Rattle.std.proofs.lemmas.Bool.Decides.{Decides-int_eq, same_from_decides}
use Rattle.std.specs.Prelude.{Decides}
use Rattle.c_values.specs.Types.{Target, IntType, CType, Integer, Void, Ptr, Struct, Array, width_of, is_signed}
use Rattle.c_values.specs.Number.{is_between, least, greatest, is_of_type}
use Rattle.c_values.specs.Word.{Word, IsWord, unsigned, signed, word}
use Rattle.c_values.specs.Value.{Value, Bits, word_in, same_value}
use Rattle.c_values.specs.Layout.{scalar_width}
use Rattle.c_values.specs.Path.{IsBits}
use Rattle.c_values.proofs.WordValues.{word-unsigned, word-signed, unsigned-word, signed-word}
use Rattle.c_values.proofs.Widths.{some_address, some_width}
use Rattle.expression_lang.proofs.Filled.{word_fits}
use Rattle.expression_lang.proofs.Fine.{bits_word}
use Rattle.c_meaning.specs.CValue.{number_at, number_of_type}
use Rattle.generation.specs.Guards.{is_signed_type}

-- ---- widths

pub some_scalar : (t : Target) (u : CType) → 1 ≤ scalar_width t u
some_scalar t (Integer i) = some_width t i
some_scalar t Void = some_address t
some_scalar t (Ptr u) = some_address t
some_scalar t (Struct x) = some_address t
some_scalar t (Array u n) = some_address t

-- ---- values that are words

pub bits_are : (n : ℕ) (v : Value) → IsBits n v → v ≡ Bits (word_in v)
bits_are n (Bits w) h = refl
bits_are _ _ h = absurd h

-- the word of a word's own width
pub word_at : (width : ℕ) (a : Word) (n : ℤ) → IsWord width a → word a.width n ≡ word width n
word_at width a n h = ap (λ w. word w n) h.has_width

-- ---- the number of a word by its sign

abbrev pub number_by : Bool → Word → ℤ
number_by b w = cond b (signed w) (unsigned w)

pub word-number : (b : Bool) (width : ℕ) (a : Word) → IsWord width a → word width (number_by b a) ≡ a
word-number true width a h = word-signed width a h
word-number false width a h = word-unsigned width a h

pub number-word : (b : Bool) (width : ℕ) (n : ℤ) → 1 ≤ width → is_between (least b width) n (greatest b width) ≡ true → number_by b (word width n) ≡ n
number-word true width n w h = signed-word width n w h
number-word false width n w h = unsigned-word width n h

pub number_of_type_is : (t : CType) (v : Value) → number_of_type t v ≡ number_by (is_signed_type t) (word_in v)
number_of_type_is (Integer i) v = refl
number_of_type_is _ _ = refl

between_halves : (m : ℕ) → 0 < m → is_between (neg_ℤ (pos m)) (pos 0) (pos (m - 1)) ≡ true
between_halves zero h = absurd (omega arith)
between_halves (suc m) h = grind arith

from_zero : (m : ℕ) → is_between (pos 0) (pos 0) (pos m) ≡ true
from_zero m = grind arith

pub zero_between : (b : Bool) (width : ℕ) → is_between (least b width) (pos 0) (greatest b width) ≡ true
zero_between true width = between_halves (2 ^ (width - 1)) (pow_pos (width - 1))
zero_between false width = from_zero (2 ^ width - 1)

-- ---- words are the same where their numbers are

word_from_parts : (a b : Word) → a.width ≡ b.width → a.bits ≡ b.bits → a ≡ b
word_from_parts a b p q = ap₂ (λ w n. record { width = w; bits = n }) p q

pub words_same : (a b : Word) → Decides (same_value (Bits a) (Bits b)) (a ≡ b)
words_same a b = (
  (λ h. let p = and_parts (a.width == b.width) (a.bits == b.bits) h in word_from_parts a b (eqb-true a.width b.width p.0) (eqb-true a.bits b.bits p.1)),
  (λ e. and_from (a.width == b.width) (a.bits == b.bits) (eq-eqb a.width b.width (ap (λ w. w.width) e)) (eq-eqb a.bits b.bits (ap (λ w. w.bits) e))),
)

pub same_number : (s : Bool) (width : ℕ) (a b : Word) → IsWord width a → IsWord width b → same_value (Bits a) (Bits b) ≡ int_eq (number_by s a) (number_by s b)
same_number s width a b h k = same_from_decides (same_value (Bits a) (Bits b)) (int_eq (number_by s a) (number_by s b)) (words_same a b) (
  (λ e. sym (word-number s width a h) ∙ ap (word width) ((Decides-int_eq (number_by s a) (number_by s b)).0 e) ∙ word-number s width b k),
  (λ e. (Decides-int_eq (number_by s a) (number_by s b)).1 (ap (number_by s) e)),
)

-- the same of a word and the word of a number
pub same_as_number : (s : Bool) (width : ℕ) (v : Value) (n : ℤ) → 1 ≤ width → IsBits width v → is_between (least s width) n (greatest s width) ≡ true →
    same_value v (Bits (word width n)) ≡ int_eq (number_by s (word_in v)) n
same_as_number s width v n w h k =
    ap (λ u. same_value u (Bits (word width n))) (bits_are width v h)
    ∙ same_number s width (word_in v) (word width n) (bits_word width v h) (word_fits width n)
    ∙ ap (int_eq (number_by s (word_in v))) (number-word s width n w k)

-- a switch's operand and a label
pub label_exact : (t : Target) (i : IntType) (v : Value) (k : ℤ) → IsBits (width_of t i) v → is_of_type t i k ≡ true → same_value v (Bits (word (width_of t i) k)) ≡ int_eq (number_at i v) k
label_exact t i v k h e = same_as_number (is_signed i) (width_of t i) v k (some_width t i) h e
