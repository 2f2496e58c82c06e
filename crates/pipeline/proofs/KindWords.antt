-- Each value of a kind is what some word stands for at the kind.
use Rattle.std.proofs.Common.{◌≡◌, ℕ, zero, suc, ◌≤◌, true, List, [], ◌∷◌, map, refl, ap, ap₂, arith}
use Rattle.std.proofs.lemmas.Bool.{and_parts, false≢true}
use Rattle.c_values.specs.Word.{word}
use Rattle.c_values.specs.Value.{Value, Bits, Number, Truth, number_in}
use Rattle.c_values.proofs.WordValues.{unsigned-word, signed-word}
use Rattle.expression_lang.specs.Sort.{Kind, WordKind, NatKind, IntKind, BoolKind, is_width, is_kind, are_kinds, word_sort_of}
use Rattle.expression_lang.specs.States.{IsOfSort}
use Rattle.expression_lang.specs.View.{view_at, views_at, IsOfKind, AreOfKinds}
use Rattle.expression_lang.proofs.Filled.{word_fits}
use Rattle.program_facts.specs.Lasting.{AreOfSorts}

-- the word that the value stands for
abbrev word_for : Kind → Value → Value
word_for (WordKind n) v = v
word_for (NatKind n) v = Bits (word n (number_in v))
word_for (IntKind n) v = Bits (word n (number_in v))
word_for BoolKind v = v

word_sorted : (k : Kind) (v : Value) → IsOfKind k v → IsOfSort (word_sort_of k) (word_for k v)
word_sorted (WordKind n) (Bits w) h = h
word_sorted (NatKind n) (Number z) h = word_fits n z
word_sorted (IntKind n) (Number z) h = word_fits n z
word_sorted BoolKind (Truth b) h = tt
word_sorted _ _ h = absurd h

some_bits : (n : ℕ) → is_width n ≡ true → 1 ≤ n
some_bits zero h = absurd (false≢true h)
some_bits (suc n) h = omega arith

word_seen : (k : Kind) (v : Value) → is_kind k ≡ true → IsOfKind k v → view_at k (word_for k v) ≡ v
word_seen (WordKind n) (Bits w) e h = refl
word_seen (NatKind n) (Number z) e h = ap (λ m. Number m) (unsigned-word n z h)
word_seen (IntKind n) (Number z) e h = ap (λ m. Number m) (signed-word n z (some_bits n e) h)
word_seen BoolKind (Truth b) e h = refl
word_seen _ _ _ h = absurd h

-- words whose views at the kinds are the values
pub record StandsForWords (ks : List Kind) (vs : List Value) : Type 0 where
  pub words : List Value
  pub sorted : AreOfSorts (map word_sort_of ks) words
  pub views : views_at ks words ≡ vs

pub words_there : (ks : List Kind) (vs : List Value) → are_kinds ks ≡ true → AreOfKinds ks vs →
    StandsForWords ks vs
words_there [] [] e h = record { words = []; sorted = tt; views = refl }
words_there (k ∷ ks) (v ∷ vs) e h =
    let both = and_parts (is_kind k) (are_kinds ks) e in
    let rest = words_there ks vs both.1 h.1 in
    record {
      words = word_for k v ∷ rest.words;
      sorted = (word_sorted k v h.0, rest.sorted);
      views = ap₂ (λ w ws. w ∷ ws) (word_seen k v both.0 h.0) rest.views;
    }
words_there [] (v ∷ vs) e h = absurd h
words_there (k ∷ ks) [] e h = absurd h
