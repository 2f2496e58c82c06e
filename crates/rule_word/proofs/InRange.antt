-- What stands for words is in the range of its kind.
use Rattle.std.proofs.Common.{◌≡◌, ℕ, zero, suc, ◌<◌, ◌≤◌, ◌^◌, ◌-◌, true, false, List, [], ◌∷◌, map, ℤ, pos, refl, arith}
use Rattle.std.proofs.lemmas.Int.{ints}
use Rattle.c_values.specs.Word.{Word, IsWord, unsigned, signed}
use Rattle.c_values.specs.Number.{is_between}
use Rattle.c_values.specs.Value.{Value, Bits, Truth}
use Rattle.c_values.proofs.WordValues.{IsSigned, low, high, signed_of}
use Rattle.c_values.proofs.WordResults.{positive_between, negative_between, high_below}
use Rattle.expression_lang.specs.Sort.{Kind, WordKind, NatKind, IntKind, BoolKind, word_sort_of}
use Rattle.expression_lang.specs.States.{IsOfSort}
use Rattle.expression_lang.specs.View.{view_at, views_at, IsOfKind, AreOfKinds}
use Rattle.program_facts.specs.Lasting.{AreOfSorts}
use Rattle.rule_word.proofs.WordViews.{Fits, without_bits}

below_fits : (m bits : ℕ) → bits < m → is_between (pos 0) (pos bits) (pos (m - 1)) ≡ true
below_fits m bits h = grind (arith, ints)

unsigned_fits : (n : ℕ) (w : Word) → IsWord n w → Fits false n (unsigned w)
unsigned_fits n w h = below_fits (2 ^ n) w.bits h.fits

by_sign : (width bits : ℕ) (m : ℤ) → 1 ≤ width → IsSigned width bits m → Fits true width m
by_sign width bits m some (low p) = positive_between (2 ^ (width - 1)) bits p
by_sign width bits m some (high {c} p e) = negative_between (2 ^ (width - 1)) c (high_below width bits c some p e)

signed_fits : (n : ℕ) (w : Word) → IsWord n w → Fits true n (signed w)
signed_fits zero w h = without_bits (λ x. Fits true 0 (signed x)) refl w h
signed_fits (suc n) w h = by_sign (suc n) w.bits (signed w) (omega arith) (signed_of (suc n) w h)

pub view_fits : (k : Kind) (v : Value) → IsOfSort (word_sort_of k) v → IsOfKind k (view_at k v)
view_fits (WordKind n) (Bits w) h = h
view_fits (NatKind n) (Bits w) h = unsigned_fits n w h
view_fits (IntKind n) (Bits w) h = signed_fits n w h
view_fits BoolKind (Truth b) h = tt
view_fits _ _ h = absurd h

pub views_fit : (ks : List Kind) (vs : List Value) → AreOfSorts (map word_sort_of ks) vs → AreOfKinds ks (views_at ks vs)
views_fit [] [] h = tt
views_fit (k ∷ ks) (v ∷ vs) h = (view_fits k v h.0, views_fit ks vs h.1)
views_fit [] (v ∷ vs) h = absurd h
views_fit (k ∷ ks) [] h = absurd h
