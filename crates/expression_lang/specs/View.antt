-- The view of a value at a kind (the word abstraction of AutoCorres): a word as itself, or by its unsigned or its signed
-- value. And what a pick gives at a kind.
use Rattle.std.specs.Prelude.{◌≡◌, List, [], ◌∷◌, true, false}
use Rattle.correspondence.specs.Outcome.{Ends, any, done, Then}
use Rattle.c_values.specs.Choice.{Choice, Any, Fill, picked}
use Rattle.c_values.specs.Word.{IsWord, unsigned, signed}
use Rattle.c_values.specs.Number.{is_between, least, greatest}
use Rattle.c_values.specs.Value.{Value, Bits, Number, Truth, word_in}
use Rattle.expression_lang.specs.Sort.{Kind, WordKind, NatKind, IntKind, BoolKind}

abbrev pub view_at : Kind → Value → Value
view_at (WordKind n) v = v
view_at (NatKind n) v = Number (unsigned (word_in v))
view_at (IntKind n) v = Number (signed (word_in v))
view_at BoolKind v = v

abbrev pub views_at : List Kind → List Value → List Value
views_at (k ∷ ks) (v ∷ vs) = view_at k v ∷ views_at ks vs
views_at _ _ = []

-- a value of a kind: a word of the width, or the number that some word of the width is
abbrev pub IsOfKind : Kind → Value → Type 0
IsOfKind (WordKind n) (Bits w) = IsWord n w
IsOfKind (NatKind n) (Number k) = is_between (least false n) k (greatest false n) ≡ true
IsOfKind (IntKind n) (Number k) = is_between (least true n) k (greatest true n) ≡ true
IsOfKind BoolKind (Truth b) = Unit {0}
IsOfKind _ _ = ⊥

abbrev pub AreOfKinds : List Kind → List Value → Type 0
AreOfKinds [] [] = Unit {0}
AreOfKinds (k ∷ ks) (v ∷ vs) = IsOfKind k v × AreOfKinds ks vs
AreOfKinds [] (v ∷ vs) = ⊥
AreOfKinds (k ∷ ks) [] = ⊥

abbrev pub IsTruth : Value → Type 0
IsTruth (Truth b) = Unit {0}
IsTruth _ = ⊥

-- any value of a kind, or that of the fill number's word; of the truth values `#f`
abbrev pub picked_at : {F : Type 0} → Choice → Kind → Ends Value F
picked_at p (WordKind n) = Then (picked p n) (λ w. done (view_at (WordKind n) (Bits w)))
picked_at p (NatKind n) = Then (picked p n) (λ w. done (view_at (NatKind n) (Bits w)))
picked_at p (IntKind n) = Then (picked p n) (λ w. done (view_at (IntKind n) (Bits w)))
picked_at Any BoolKind = any IsTruth
picked_at (Fill n) BoolKind = done (Truth false)

-- the same before words become numbers: the word itself, whatever the kind says of it
abbrev pub picked_word_at : {F : Type 0} → Choice → Kind → Ends Value F
picked_word_at p (WordKind n) = picked_at p (WordKind n)
picked_word_at p (NatKind n) = picked_at p (WordKind n)
picked_word_at p (IntKind n) = picked_at p (WordKind n)
picked_word_at p BoolKind = picked_at p BoolKind

-- the word or the truth value that is all zeros
abbrev pub zero_word_at : Kind → Value
zero_word_at (WordKind n) = Bits (record { width = n; bits = 0 })
zero_word_at (NatKind n) = Bits (record { width = n; bits = 0 })
zero_word_at (IntKind n) = Bits (record { width = n; bits = 0 })
zero_word_at BoolKind = Truth false
