-- Addresses by their bits, constant indices in range, and the shapes of the scalars at the ends of paths.
use Rattle.std.proofs.Common.{◌≡◌, ℕ, true, List, Option, Some, None, refl, sym, ap, ap₂, ◌∙◌, subst}
use Rattle.std.proofs.lemmas.Bool.{and_from}
use Rattle.c_values.specs.Types.{CType}
use Rattle.c_values.specs.Value.{Value, Bits, word_in}
use Rattle.c_values.specs.Word.{Word, IsWord}
use Rattle.c_values.specs.Layout.{Layout, IsLayout, Shape, Scalar, Record, Row, type_of, shape_of, is_complete}
use Rattle.c_values.specs.Path.{Step, Spot, spot, member_spot, in_range, where_some, is_index, IsBits}
use Rattle.c_values.proofs.Laid.{structs_of, IsLaid}
use Rattle.c_values.proofs.Parts.{formed_complete, part_of}
use Rattle.c_memory.specs.Memory.{Tag}
use Rattle.c_memory.specs.Tags.{is_root_type, AreTags, is_covered}
use Rattle.c_memory.proofs.Covered.{root_of, covered_tag, tag_among}
use Rattle.c_memory.proofs.Roots.{scalar_root}
use Rattle.expression_lang.specs.Expression.{NumberLit, Path, Here, IntoField, IntoElement}
use Rattle.expression_lang.specs.Evaluation.{Env, State, steps}
use Rattle.assertion_walks.specs.Written.{InMember, HasIndexes, scalar_type}

-- words of one width with the same bits
word_same : (n : ℕ) (v w : Word) → IsWord n v → IsWord n w → v.bits ≡ w.bits → v ≡ w
word_same n v w h k e = ap₂ (λ m b. record { width = m; bits = b }) (h.has_width ∙ sym k.has_width) e

pub bits_same : (n : ℕ) (v w : Value) → IsBits n v → IsBits n w → (word_in v).bits ≡ (word_in w).bits → v ≡ w
bits_same n (Bits v) (Bits w) h k e = ap (λ x. Bits x) (word_same n v w h k e)
bits_same n (Bits v) w h k e = absurd k
bits_same n v w h k e = absurd h

-- constants in range
module _ (l : Layout) (env : Env) (s : State) where
  where_member : (ps : List Step) (o : Option Spot) (P : Shape → Type 0) → InMember o P → ((r : Shape) → P r → in_range r ps ≡ true) →
      where_some o (λ r. in_range r ps) ≡ true
  where_member ps None P h f = absurd h
  where_member ps (Some q) P h f = f q.shape h

  pub indexes_in_range : (path : Path) (r : Shape) → HasIndexes path r → in_range r (steps l env s path) ≡ true
  indexes_in_range Here r h = refl
  indexes_in_range (IntoField k path) (Record x n align fs) h =
      where_member (steps l env s path) (member_spot fs k) (λ r. HasIndexes path r) h (λ r i. indexes_in_range path r i)
  indexes_in_range (IntoElement (NumberLit i) path) (Row r n) h = and_from (is_index i n) (in_range r (steps l env s path)) h.0 (indexes_in_range path r h.1)
  indexes_in_range _ _ h = absurd h

pub scalar_is : (o : Option Shape) (t : CType) → scalar_type o ≡ Some t → (width : ℕ) × (o ≡ Some (Scalar t width))
scalar_is (Some (Scalar u width)) t h = let e : u ≡ t = cc in (width, ap (λ v. Some (Scalar v width)) e)
scalar_is _ t h = absurd cc

module _ (l : Layout) (h : IsLayout l) (ts : List Tag) (tags : AreTags l ts) (t : CType) (a : ℕ) (k : is_covered l ts t a ≡ true) where
  covered_complete : is_complete (shape_of l t) ≡ true
  covered_complete =
      let w = covered_tag l ts t a k in
      formed_complete (shape_of l t) (root_of l h w.0 t a w.2 (tag_among l ts w.0 tags w.1) w.3).within.formed

  -- the scalar at the end of a path from a covered root
  module _ (ps : List Step) (q : Spot) (range : in_range (shape_of l t) ps ≡ true) (at_end : spot (shape_of l t) ps ≡ Some q) (u : CType) (width : ℕ)
      (is : q.shape ≡ Scalar u width) where
    pub scalar_shape : shape_of l u ≡ q.shape
    scalar_shape = ap (λ s. shape_of l (type_of s)) (sym is) ∙ (part_of l t ps q h covered_complete range at_end).own

    pub scalar_has_root : is_root_type (type_of q.shape) ≡ true
    scalar_has_root =
        let laid = subst (λ s. IsLaid l.target (structs_of l) s) is (part_of l t ps q h covered_complete range at_end).laid in
        ap (λ s. is_root_type (type_of s)) is ∙ scalar_root u laid.scalar
