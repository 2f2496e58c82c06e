-- Values of kinds are of the kinds' sorts, and what stands for words of C variables is of the variables' kinds.
use Rattle.std.proofs.Common.{◌≡◌, Bool, true, false, if◌then◌else◌, List, [], ◌∷◌, map, refl, sym, subst}
use Rattle.c_values.specs.Types.{Target, CType, Integer, is_signed, width_of}
use Rattle.c_values.specs.Value.{Value, Bits, Number, Truth}
use Rattle.c_values.specs.Layout.{Layout, scalar_width}
use Rattle.expression_lang.specs.Sort.{Level, Numbers, Kind, WordKind, NatKind, IntKind, BoolKind, WordSort, sort_of_kind, word_sort_of}
use Rattle.expression_lang.specs.States.{IsOfSort}
use Rattle.expression_lang.specs.Signature.{kinds_of, kind_at}
use Rattle.expression_lang.specs.View.{IsOfKind, AreOfKinds, views_at}
use Rattle.program_facts.specs.Lasting.{AreOfSorts}
use Rattle.rule_word.proofs.InRange.{view_fits}
use Rattle.c_lang.specs.Typed.{Variable}
use Rattle.c_meaning.specs.Fitting.{AreOfTypes}
use Rattle.c_meaning.specs.Kinds.{variables}

kind_sorted : (k : Kind) (v : Value) → IsOfKind k v → IsOfSort (sort_of_kind k) v
kind_sorted (WordKind n) (Bits w) h = h
kind_sorted (NatKind n) (Number z) h = tt
kind_sorted (IntKind n) (Number z) h = tt
kind_sorted BoolKind (Truth b) h = tt
kind_sorted _ _ h = absurd h

pub kinds_sorted : (ks : List Kind) (vs : List Value) → AreOfKinds ks vs → AreOfSorts (map sort_of_kind ks) vs
kinds_sorted [] [] h = tt
kinds_sorted (k ∷ ks) (v ∷ vs) h = (kind_sorted k v h.0, kinds_sorted ks vs h.1)
kinds_sorted [] (v ∷ vs) h = absurd h
kinds_sorted (k ∷ ks) [] h = absurd h

-- a variable's kind is of a word of its type
kind_word : (t : Target) (level : Level) (u : CType) → word_sort_of (kind_at t level u) ≡ WordSort (scalar_width t u)
kind_word t Numbers (Integer i) = by_sign (is_signed i)
  where
    by_sign : (b : Bool) → word_sort_of (if b then IntKind (width_of t i) else NatKind (width_of t i)) ≡ WordSort (width_of t i)
    by_sign true = refl
    by_sign false = refl
kind_word t _ u = refl

pub views_are_of_kinds : (l : Layout) (level : Level) (xs : List Variable) (vs : List Value) → AreOfTypes l xs vs →
    AreOfKinds (kinds_of (variables l.target level xs)) (views_at (kinds_of (variables l.target level xs)) vs)
views_are_of_kinds l level [] vs h = tt
views_are_of_kinds l level (x ∷ xs) (v ∷ vs) h = (
  view_fits (kind_at l.target level x.type) v (subst (λ s. IsOfSort s v) (sym (kind_word l.target level x.type)) h.0),
  views_are_of_kinds l level xs vs h.1,
)
views_are_of_kinds l level (x ∷ xs) [] h = absurd h
