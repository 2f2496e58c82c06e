-- The value of a word of a width lies in the range of the width, and in each wider one.
use Rattle.std.proofs.Common.{◌≡◌, ℕ, zero, suc, ◌+◌, ◌-◌, ◌^◌, ◌<◌, ◌≤◌, true, false, Some, ℤ, pos, negsuc, neg_ℤ, sym, subst, arith}
use Rattle.std.specs.Prelude.{int_le, List}
use Rattle.std.proofs.lemmas.Int.{ints}
use Rattle.c_values.specs.Name.{Name}
use Rattle.c_values.specs.Types.{CType}
use Rattle.c_values.specs.Path.{HasShape}
use Rattle.c_values.specs.Number.{is_between, least, greatest}
use Rattle.c_values.specs.Word.{Word, IsWord, unsigned, signed}
use Rattle.c_values.specs.Value.{Value, word_in, number_in}
use Rattle.c_values.specs.Layout.{IsLayout, GlobalVar, shape_of, global_type}
use Rattle.c_values.proofs.WordValues.{IsSigned, low, high, signed_of, halves}
use Rattle.expression_lang.specs.Expression.{Exp, ToNat, ToInt}
use Rattle.expression_lang.specs.Evaluation.{Env, State, value}
use Rattle.expression_lang.specs.Sort.{Scope, Of, WordSort, sort_of, word_width}
use Rattle.expression_lang.specs.States.{IsEnvironment, IsState}
use Rattle.expression_lang.proofs.Fine.{fine, bits_word}
use Rattle.expression_lang.proofs.Inversion.{width_inv}
use Rattle.entailment.specs.Table.{IsRange}

wider : (bottom first n last top : ℤ) → int_le bottom first ≡ true → int_le last top ≡ true → is_between first n last ≡ true → is_between bottom n top ≡ true
wider bottom first n last top h k i = grind (arith, ints)

pub unsigned_between : (width : ℕ) (w : Word) → IsWord width w → is_between (least false width) (unsigned w) (greatest false width) ≡ true
unsigned_between width w h = let k = h.fits in grind (arith, ints)

-- as many below zero as from zero on
below_half : (bits half : ℕ) → bits < half → is_between (neg_ℤ (pos half)) (pos bits) (pos (half - 1)) ≡ true
below_half bits half h = grind (arith, ints)

below_zero : (c half : ℕ) → c < half → is_between (neg_ℤ (pos half)) (negsuc c) (pos (half - 1)) ≡ true
below_zero c half h = grind (arith, ints)

two_halves : (width : ℕ) → 2 ^ width ≤ 2 ^ (width - 1) + 2 ^ (width - 1)
two_halves zero = omega arith
two_halves (suc n) = omega (arith, halves (suc n) (omega arith))

number_between : (width bits : ℕ) (n : ℤ) → IsSigned width bits n → is_between (least true width) n (greatest true width) ≡ true
number_between width bits n (low h) = below_half bits (2 ^ (width - 1)) h
number_between width bits n (high {c} h e) = below_zero c (2 ^ (width - 1)) (omega (arith, two_halves width))

pub signed_between : (width : ℕ) (w : Word) → IsWord width w → is_between (least true width) (signed w) (greatest true width) ≡ true
signed_between width w h = number_between width w.bits (signed w) (signed_of width w h)

module _ (g : Scope) (vs : List GlobalVar) (laid : IsLayout g.layout) (known : g.globals ≡ global_type vs)
    (env : Env) (s : State) (fits : IsEnvironment g env) (state : IsState g.layout vs s) where
  abbrev at : Exp → Value
  at e = value g.layout env s e

  word_at : (e : Exp) (n : ℕ) → word_width (sort_of g e) ≡ Some n → IsWord n (word_in (at e))
  word_at e n h =
      let globals = subst (λ f. (x : Name) (t : CType) → f x ≡ Some t → HasShape (shape_of g.layout t) (s.globals x)) (sym known) state.globals in
      bits_word n (at e) (fine g laid env s fits globals state.heap e (Of (WordSort n)) (width_inv (sort_of g e) n h)).sort

  -- the number that a word stands for lies in a range of all words
  pub range_holds : (bottom : ℤ) (e : Exp) (top : ℤ) → IsRange g e bottom top → is_between bottom (number_in (at e)) top ≡ true
  range_holds bottom (ToNat e) top h =
      wider bottom (least false h.0) (unsigned (word_in (at e))) (greatest false h.0) top h.2 h.3 (unsigned_between h.0 (word_in (at e)) (word_at e h.0 h.1))
  range_holds bottom (ToInt e) top h =
      wider bottom (least true h.0) (signed (word_in (at e))) (greatest true h.0) top h.2 h.3 (signed_between h.0 (word_in (at e)) (word_at e h.0 h.1))
  range_holds bottom _ top h = absurd h
