-- A declared local takes any word of its width, on both sides, or that of the fill number.
use Rattle.std.proofs.Common.{◌≡◌, ℕ, true, Some, pos, refl, ap}
use Rattle.std.proofs.lemmas.Bool.{false≢true}
use Rattle.correspondence.specs.Outcome.{Then, done}
use Rattle.correspondence.specs.Corresponds.{Corresponds}
use Rattle.correspondence.proofs.Corresponds.{done_corresponds, any_corresponds}
use Rattle.c_values.specs.Types.{Target, CType, Integer, Ptr, is_signed, width_of}
use Rattle.c_values.specs.Word.{Word, IsWord, word}
use Rattle.c_values.specs.Value as V
use Rattle.c_values.specs.Layout.{is_scalar, scalar_width}
use Rattle.c_values.specs.Choice.{Choice, Any, Fill, picked}
use Rattle.expression_lang.specs.Sort.{Level, Bytes, Words, Numbers, NatKind, IntKind}
use Rattle.expression_lang.specs.View.{picked_word_at}
use Rattle.simpl_lang.specs.Exec.{picked_local}
use Rattle.expression_lang.specs.Signature.{kind_at}
use Rattle.generation.proofs.ExactTests.{by_test}
use Rattle.expression_lang.proofs.Filled.{word_fits}
use Rattle.correspondence.proofs.Steps.{right_goes_on}
use Rattle.generation.proofs.ExactGuards.{SameKind}

abbrev IsSameWord : ℕ → Word → Word → Type 0
IsSameWord width a b = (b ≡ a) × IsWord width a

picked_same : (p : Choice) (width : ℕ) → Corresponds (IsSameWord width) SameKind (picked p width) (picked p width)
picked_same Any width = any_corresponds (IsSameWord width) SameKind (IsWord width) (IsWord width) (λ a h. (a, (refl, h), h)) (λ a h. (a, (refl, h), h))
picked_same (Fill n) width = done_corresponds (IsSameWord width) SameKind (word width (pos n)) (word width (pos n)) (refl, word_fits width (pos n))

-- the value of a word
abbrev pub IsWordIn : ℕ → Word → V.Value → Type 0
IsWordIn width w v = (v ≡ V.Bits w) × IsWord width w

word_picked : (p : Choice) (width : ℕ) → Corresponds (IsWordIn width) SameKind (picked p width) (Then (picked p width) (λ w. done (V.Bits w)))
word_picked p width =
    right_goes_on (IsSameWord width) (IsWordIn width) SameKind (picked p width) (picked p width) (λ w. done (V.Bits w)) (picked_same p width)
    (λ a b h. done_corresponds (IsWordIn width) SameKind a (V.Bits b) (ap V.Bits h.0, h.1))

pub kind_picked : (p : Choice) (t : Target) (level : Level) (u : CType) → is_scalar u ≡ true →
    Corresponds (IsWordIn (scalar_width t u)) SameKind (picked p (scalar_width t u)) (picked_local p (Some (kind_at t level u)))
kind_picked p t Bytes u h = word_picked p (scalar_width t u)
kind_picked p t Words u h = word_picked p (scalar_width t u)
kind_picked p t Numbers (Integer i) h =
    by_test (λ k. Corresponds (IsWordIn (width_of t i)) SameKind (picked p (width_of t i)) (picked_word_at p k)) (is_signed i) (IntKind (width_of t i)) (NatKind (width_of t i))
    (λ e. word_picked p (width_of t i)) (λ e. word_picked p (width_of t i))
kind_picked p t Numbers (Ptr u) h = word_picked p (scalar_width t (Ptr u))
kind_picked _ _ _ _ h = absurd (false≢true h)
