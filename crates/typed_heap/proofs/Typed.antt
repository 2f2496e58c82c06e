-- The shapes at the ends of paths.
use Rattle.std.proofs.Common.{◌≡◌, true, false, List, ◌∷◌, Option, Some, None, IsSome, IfSome, ℤ, refl, sym, ap, ◌∙◌}
use Rattle.std.proofs.lemmas.Bool.{false≢true}
use Rattle.std.specs.Prelude.{IsSomeAnd}
use Rattle.std.specs.Option.{option_map}
use Rattle.c_values.specs.Types.{CType}
use Rattle.c_values.specs.Value.{Value, Bits, word_in}
use Rattle.c_values.specs.Layout.{Layout, IsLayout, Shape, Scalar, Record, Row, type_of, shape_of, is_object, is_scalar}
use Rattle.c_values.specs.Path.{Step, Spot, spot, step_spot, and_then_spot, further, zeros, HasShape}
use Rattle.c_values.proofs.Laid.{shape_type}
use Rattle.c_values.specs.CodeParts.{has_parts}
use Rattle.c_memory.specs.TypedHeap.{zeros_spot}
use Rattle.c_memory.proofs.Objects.{object_complete}

abbrev pub shape_at : Option Spot → Option Shape
shape_at o = option_map (λ q. q.shape) o

further_shape : (z : ℤ) (o : Option Spot) → shape_at (further z o) ≡ shape_at o
further_shape z None = refl
further_shape z (Some q) = refl

-- after a step to this shape
pub next_shape : (s : Shape) (p : Step) (ps : List Step) (r : Shape) → Some r ≡ shape_at (step_spot s p) → shape_at (spot s (p ∷ ps)) ≡ shape_at (spot r ps)
next_shape s p ps r h = by_spot (step_spot s p) h
  where
    by_spot : (o : Option Spot) → Some r ≡ shape_at o → shape_at (and_then_spot o (λ q. further q.offset (spot q.shape ps))) ≡ shape_at (spot r ps)
    by_spot None k = absurd cc
    by_spot (Some q) k = let same : r ≡ q.shape = cc in further_shape q.offset (spot q.shape ps) ∙ ap (λ t. shape_at (spot t ps)) (sym same)

pub some_of_and : {A : Type 0} (o : Option A) (P : A → Type 0) → IsSomeAnd o P → IsSome o
some_of_and None P h = absurd h
some_of_and (Some x) P h = refl

pub place_zeros : (s : Shape) (o : Option Spot) → Some s ≡ shape_at o → zeros s ≡ zeros_spot o
place_zeros s None e = absurd cc
place_zeros s (Some q) e = let same : s ≡ q.shape = cc in ap zeros same

pub scalar_type_at : (l : Layout) (u : CType) (o : Option Spot) → IsLayout l → is_object l u ≡ true → Some (shape_of l u) ≡ shape_at o → IsSomeAnd o (λ q. is_scalar (type_of q.shape) ≡ true) → is_scalar u ≡ true
scalar_type_at l u None h object e k = absurd k
scalar_type_at l u (Some q) h object e k =
    let same : shape_of l u ≡ q.shape = cc in
    ap is_scalar (sym (shape_type l h u (object_complete l u object)) ∙ ap type_of same) ∙ k

bits_of : (s : Shape) (v : Value) → is_scalar (type_of s) ≡ true → HasShape s v → Bits (word_in v) ≡ v
bits_of (Scalar t width) (Bits w) k h = refl
bits_of (Record x n align fs) v k h = absurd (false≢true k)
bits_of (Row e n) v k h = absurd (false≢true k)
bits_of _ _ _ h = absurd h

-- a value at the place of a scalar is a word
pub scalar_value : (o : Option Spot) (v : Value) → IsSomeAnd o (λ q. is_scalar (type_of q.shape) ≡ true) → IfSome o (λ q. HasShape q.shape v) → Bits (word_in v) ≡ v
scalar_value None v k h = absurd k
scalar_value (Some q) v k h = bits_of q.shape v k h

pub scalar_parts : (o : Option Spot) (v : Value) → IsSomeAnd o (λ q. is_scalar (type_of q.shape) ≡ true) → IsSomeAnd o (λ q. HasShape q.shape v) → has_parts v ≡ false
scalar_parts None v k h = absurd k
scalar_parts (Some q) v k h = ap has_parts (sym (bits_of q.shape v k h))
