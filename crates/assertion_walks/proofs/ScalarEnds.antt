-- Scalars where paths end, and elements at constant indexes.
use Rattle.std.proofs.Common.{◌≡◌, ℕ, false, not, ◌&&◌, Option, Some, None, ℤ, pos, negsuc, refl, sym, ap, ◌∙◌, arith}
use Rattle.std.proofs.lemmas.Bool.Decides.{nat_tests}
use Rattle.std.specs.Prelude.{nat_lt, int_lt, unsigned_abs}
use Rattle.c_values.proofs.Options.{none_some}
use Rattle.c_values.specs.Types.{CType, Integer, Void, Ptr, Struct, Array}
use Rattle.c_values.specs.Layout.{Layout, Shape, Incomplete, Scalar, Record, Row, shape_of}
use Rattle.c_values.specs.Path.{is_index}
use Rattle.expression_lang.specs.Expression.{Exp, NumberLit, Path, IntoElement}
use Rattle.expression_lang.specs.CodeAlong.{element_in}
use Rattle.expression_lang.proofs.Sorting.{IsStructShape, struct_is}
use Rattle.assertion_walks.specs.Written.{scalar_type, HasIndexes}
use Rattle.assertion_walks.specs.CodeScalar.{HasNoElementAt}

-- a type, where it is a scalar's
abbrev pub scalar_only : CType → Option CType
scalar_only (Integer i) = Some (Integer i)
scalar_only (Ptr t) = Some (Ptr t)
scalar_only _ = None

no_scalar : (s : Shape) → IsStructShape s → scalar_type (Some s) ≡ None
no_scalar (Scalar t width) h = absurd h
no_scalar (Row e n) h = refl
no_scalar Incomplete h = refl
no_scalar (Record x n align fs) h = refl

scalar_shape : (l : Layout) (t : CType) → scalar_type (Some (shape_of l t)) ≡ scalar_only t
scalar_shape l (Integer i) = refl
scalar_shape l Void = refl
scalar_shape l (Ptr t) = refl
scalar_shape l (Struct x) = no_scalar (shape_of l (Struct x)) (struct_is l x)
scalar_shape l (Array t n) = refl

pub scalar_end : (l : Layout) (o : Option Shape) (t : CType) → Some (shape_of l t) ≡ o → scalar_only t ≡ scalar_type o
scalar_end l o t h = sym (scalar_shape l t) ∙ ap scalar_type h

pub no_end : (o : Option Shape) → None ≡ o → None ≡ scalar_type o
no_end o h = ap scalar_type h

below_none : (i : ℕ) → int_lt (pos i) (pos 0) ≡ false
below_none i = grind (arith, nat_tests)

pub index_is : (n : ℤ) (m : ℕ) → (not (int_lt n (pos 0)) && nat_lt (unsigned_abs n) m) ≡ is_index n m
index_is (pos i) m = ap (λ b. not b && nat_lt i m) (below_none i)
index_is (negsuc i) m = refl

pub no_element : (index : Exp) (path : Path) (s : Shape) → HasNoElementAt index s → HasIndexes (IntoElement index path) s → ⊥
no_element (NumberLit n) path (Row e m) never h = never e (record { number = n; length = m; constant = refl; row = refl; there = h.0 })
no_element _ _ _ never h = h

-- what is no array
pub no_array : (index : Exp) (s : Shape) → element_in s ≡ None → HasNoElementAt index s
no_array index s h e at = none_some (sym h ∙ ap element_in at.row)
