-- One step along a path, whatever its indices are.
use Rattle.std.proofs.Common.{◌≡◌, ℕ, Option, Some, None, refl, sym, ap}
use Rattle.c_values.specs.Name.{Name}
use Rattle.c_values.specs.Types.{Struct}
use Rattle.c_values.specs.Layout.{Layout, Shape, Scalar, Record, Row, shape_of}
use Rattle.c_values.specs.Path.{Field, Spot, step_spot, member_spot}
use Rattle.expression_lang.specs.Expression.{Exp, Path, IntoField, IntoElement}
use Rattle.expression_lang.specs.Sort.{shape_in}
use Rattle.expression_lang.specs.CodeAlong.{shape_at, element_in}
use Rattle.expression_lang.proofs.Sorting.{IsStructShape, struct_is}
use Rattle.monad_sorts.specs.CodeTold.{shape_through, scalar_at}

-- to a member
pub next_field : (k : ℕ) (path : Path) (s r : Shape) → Some r ≡ shape_at (step_spot s (Field k)) →
    shape_through (IntoField k path) s ≡ shape_through path r
next_field k path (Record x n align fs) r e = by_member (member_spot fs k) e
  where
    by_member : (o : Option Spot) → Some r ≡ shape_at o → shape_in o (λ s. shape_through path s) ≡ shape_through path r
    by_member None h = absurd cc
    by_member (Some q) h = let same : r ≡ q.shape = cc in ap (λ s. shape_through path s) (sym same)
next_field k path _ r e = absurd cc

pub no_field : (k : ℕ) (path : Path) (s : Shape) → None ≡ shape_at (step_spot s (Field k)) →
    shape_through (IntoField k path) s ≡ None
no_field k path (Record x n align fs) e = by_member (member_spot fs k) e
  where
    by_member : (o : Option Spot) → None ≡ shape_at o → shape_in o (λ s. shape_through path s) ≡ None
    by_member None h = refl
    by_member (Some q) h = absurd cc
no_field _ _ _ _ = refl

-- to an element
pub next_element : (e : Exp) (path : Path) (s r : Shape) → Some r ≡ element_in s →
    shape_through (IntoElement e path) s ≡ shape_through path r
next_element e path (Row s m) r h = let same : r ≡ s = cc in ap (λ q. shape_through path q) (sym same)
next_element e path _ r h = absurd cc

pub no_element : (e : Exp) (path : Path) (s : Shape) → None ≡ element_in s → shape_through (IntoElement e path) s ≡ None
no_element e path (Row s m) h = absurd cc
no_element _ _ _ _ = refl

-- a struct is no scalar
shape_scalar : (s : Shape) → IsStructShape s → scalar_at (Some s) ≡ None
shape_scalar (Scalar t width) h = absurd h
shape_scalar (Row e n) h = absurd h
shape_scalar _ _ = refl

pub no_scalar : (l : Layout) (x : Name) → scalar_at (Some (shape_of l (Struct x))) ≡ None
no_scalar l x = shape_scalar (shape_of l (Struct x)) (struct_is l x)
