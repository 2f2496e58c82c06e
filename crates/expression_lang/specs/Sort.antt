-- Sorts, kinds and levels, and which expressions are well-sorted: simple sorts, without subtypes, by recursion on the
-- expression.
use Rattle.std.specs.Prelude.{ℕ, ◌==◌, nat_lt, ◌^◌, Bool, true, false, not, ◌&&◌, ◌||◌, Option, Some, None, if◌then◌else◌, List, [], ◌∷◌}
use Rattle.c_values.specs.Name.{Name}
use Rattle.c_values.specs.Types.{CType, same_type, address_width}
use Rattle.c_values.specs.Number.{NumberOp, Neg}
use Rattle.c_values.specs.Layout.{Layout, Shape, Incomplete, Scalar as WordShape, Record, Row, type_of, shape_of, is_object}
use Rattle.c_values.specs.Path.{Spot, member_spot}
use Rattle.expression_lang.specs.Expression

pub data Scalar : Type 0 where
  WordSort : ℕ → Scalar
  NumberSort : Scalar
  TruthSort : Scalar

-- a scalar, or the parts of a struct or an array
pub data Sort : Type 0 where
  Of : Scalar → Sort
  PartsSort : CType → Sort

-- what an abstract program works on: bytes and words, typed heaps and words, or typed heaps and numbers
pub data Level : Type 0 where
  Bytes : Level
  Words : Level
  Numbers : Level

-- how a word is seen: as itself, by its unsigned or by its signed value; or a truth value
pub data Kind : Type 0 where
  WordKind : ℕ → Kind
  NatKind : ℕ → Kind
  IntKind : ℕ → Kind
  BoolKind : Kind

abbrev pub is_lifted : Level → Bool
is_lifted Bytes = false
is_lifted Words = true
is_lifted Numbers = true

-- the sort of a kind before words become numbers, and after
abbrev pub word_sort_of : Kind → Scalar
word_sort_of (WordKind n) = WordSort n
word_sort_of (NatKind n) = WordSort n
word_sort_of (IntKind n) = WordSort n
word_sort_of BoolKind = TruthSort

abbrev pub sort_of_kind : Kind → Scalar
sort_of_kind (WordKind n) = WordSort n
sort_of_kind (NatKind n) = NumberSort
sort_of_kind (IntKind n) = NumberSort
sort_of_kind BoolKind = TruthSort

abbrev pub same_scalar : Scalar → Scalar → Bool
same_scalar (WordSort m) (WordSort n) = m == n
same_scalar NumberSort NumberSort = true
same_scalar TruthSort TruthSort = true
same_scalar _ _ = false

abbrev pub same_sort : Sort → Sort → Bool
same_sort (Of a) (Of b) = same_scalar a b
same_sort (PartsSort t) (PartsSort u) = same_type t u
same_sort _ _ = false

-- what is in scope: the names with their scalars, and the globals with their types
pub record Scope : Type 0 where
  pub layout : Layout
  pub names : Name → Option Scalar
  pub globals : Name → Option CType

abbrev pub is_width : ℕ → Bool
is_width n = (n == 8) || (n == 16) || (n == 32) || (n == 64)

-- of one of the four widths
abbrev pub is_kind : Kind → Bool
is_kind (WordKind n) = is_width n
is_kind (NatKind n) = is_width n
is_kind (IntKind n) = is_width n
is_kind BoolKind = true

abbrev pub are_kinds : List Kind → Bool
are_kinds [] = true
are_kinds (k ∷ ks) = is_kind k && are_kinds ks

abbrev pub sort_at : Shape → Option Sort
sort_at Incomplete = None
sort_at (WordShape t width) = Some (Of (WordSort width))
sort_at (Record x n align fs) = Some (PartsSort (type_of (Record x n align fs)))
sort_at (Row e n) = Some (PartsSort (type_of (Row e n)))

-- the width of a word's sort
abbrev pub word_width : Option Sort → Option ℕ
word_width (Some (Of (WordSort n))) = Some n
word_width _ = None

abbrev pub is_word_of : ℕ → Option Sort → Bool
is_word_of n (Some (Of (WordSort m))) = m == n
is_word_of n _ = false

abbrev pub is_number : Option Sort → Bool
is_number (Some (Of NumberSort)) = true
is_number _ = false

abbrev pub is_truth : Option Sort → Bool
is_truth (Some (Of TruthSort)) = true
is_truth _ = false

abbrev pub number_sort : Option Sort
number_sort = Some (Of NumberSort)

abbrev pub truth_sort : Option Sort
truth_sort = Some (Of TruthSort)

abbrev pub where_holds : Bool → Option Sort → Option Sort
where_holds true s = s
where_holds false s = None

-- two words of one width give a sort that depends on it
abbrev pub of_words : Option ℕ → Option ℕ → (ℕ → Option Sort) → Option Sort
of_words (Some m) (Some n) f = where_holds (m == n) (f m)
of_words _ _ f = None

abbrev pub of_word : Option ℕ → (ℕ → Option Sort) → Option Sort
of_word (Some n) f = f n
of_word None f = None

abbrev pub word_sort : ℕ → Option Sort
word_sort n = Some (Of (WordSort n))

abbrev pub are_same : Option Sort → Option Sort → Bool
are_same (Some s) (Some t) = same_sort s t
are_same _ _ = false

abbrev pub of_shape : Option Shape → (Shape → Option Sort) → Option Sort
of_shape None f = None
of_shape (Some s) f = f s

abbrev pub shape_in : Option Spot → (Shape → Option Shape) → Option Shape
shape_in None f = None
shape_in (Some q) f = f q.shape

abbrev pub of_type : Option CType → (CType → Option Sort) → Option Sort
of_type None f = None
of_type (Some t) f = f t

-- the shape of a value that has parts
abbrev pub parts_shape : Layout → Option Sort → Option Shape
parts_shape l (Some (PartsSort t)) = Some (shape_of l t)
parts_shape l _ = None

abbrev pub scalar_sort : Option Scalar → Option Sort
scalar_sort None = None
scalar_sort (Some s) = Some (Of s)

abbrev pub cast_fits : Expression.CastOp → ℕ → ℕ → Bool
cast_fits Expression.Zext from to = nat_lt from to
cast_fits Expression.Sext from to = nat_lt from to
cast_fits Expression.Trunc from to = nat_lt to from

abbrev pub is_unary : NumberOp → Bool
is_unary Neg = true
is_unary _ = false

-- nothing but one step
abbrev pub is_one_step : Expression.Path → Bool
is_one_step (Expression.IntoField k Expression.Here) = true
is_one_step (Expression.IntoElement e Expression.Here) = true
is_one_step path = false

abbrev mutual
  -- the sort of a well-sorted expression
  pub sort_of : Scope → Expression.Exp → Option Sort
  sort_of g (Expression.Var x) = scalar_sort (g.names x)
  sort_of g (Expression.WordLit w) = where_holds (is_width w.width && nat_lt w.bits (2 ^ w.width)) (word_sort w.width)
  sort_of g (Expression.NumberLit n) = number_sort
  sort_of g (Expression.TruthLit b) = truth_sort
  sort_of g (Expression.WordBinary op a b) = of_words (word_width (sort_of g a)) (word_width (sort_of g b)) word_sort
  sort_of g (Expression.WordShift op a n) = where_holds (is_number (sort_of g n)) (of_word (word_width (sort_of g a)) word_sort)
  sort_of g (Expression.WordUnary op a) = of_word (word_width (sort_of g a)) word_sort
  sort_of g (Expression.WordCompare op a b) = of_words (word_width (sort_of g a)) (word_width (sort_of g b)) (λ n. truth_sort)
  sort_of g (Expression.Cast op width a) = of_word (word_width (sort_of g a)) (λ from. where_holds (is_width width && cast_fits op from width) (word_sort width))
  sort_of g (Expression.ToNat a) = of_word (word_width (sort_of g a)) (λ n. number_sort)
  sort_of g (Expression.ToInt a) = of_word (word_width (sort_of g a)) (λ n. number_sort)
  sort_of g (Expression.ToWord width a) = where_holds (is_width width && is_number (sort_of g a)) (word_sort width)
  sort_of g (Expression.Arith op a b) = where_holds (not (is_unary op) && is_number (sort_of g a) && is_number (sort_of g b)) number_sort
  sort_of g (Expression.Negate a) = where_holds (is_number (sort_of g a)) number_sort
  sort_of g (Expression.Lt a b) = where_holds (is_number (sort_of g a) && is_number (sort_of g b)) truth_sort
  sort_of g (Expression.Le a b) = where_holds (is_number (sort_of g a) && is_number (sort_of g b)) truth_sort
  sort_of g (Expression.Between low a high) = where_holds (is_number (sort_of g a)) truth_sort
  sort_of g (Expression.Eq a b) = where_holds (are_same (sort_of g a) (sort_of g b)) truth_sort
  sort_of g (Expression.And a b) = where_holds (is_truth (sort_of g a) && is_truth (sort_of g b)) truth_sort
  sort_of g (Expression.Or a b) = where_holds (is_truth (sort_of g a) && is_truth (sort_of g b)) truth_sort
  sort_of g (Expression.Imp a b) = where_holds (is_truth (sort_of g a) && is_truth (sort_of g b)) truth_sort
  sort_of g (Expression.Not a) = where_holds (is_truth (sort_of g a)) truth_sort
  sort_of g (Expression.If c a b) = where_holds (is_truth (sort_of g c) && are_same (sort_of g a) (sort_of g b)) (sort_of g a)
  sort_of g (Expression.Padd t p n) = where_holds (is_object g.layout t && is_word_of (address_width g.layout.target) (sort_of g p) && is_number (sort_of g n)) (word_sort (address_width g.layout.target))
  sort_of g (Expression.At t p path) = where_holds (is_object g.layout t && is_word_of (address_width g.layout.target) (sort_of g p)) (of_shape (shape_along g path (shape_of g.layout t)) (λ s. word_sort (address_width g.layout.target)))
  sort_of g (Expression.Load t p path) = where_holds (is_object g.layout t && is_word_of (address_width g.layout.target) (sort_of g p)) (of_shape (shape_along g path (shape_of g.layout t)) sort_at)
  sort_of g (Expression.Read t p path) = where_holds (is_object g.layout t && is_word_of (address_width g.layout.target) (sort_of g p)) (of_shape (shape_along g path (shape_of g.layout t)) sort_at)
  sort_of g (Expression.Tagged t p) = where_holds (is_object g.layout t && is_word_of (address_width g.layout.target) (sort_of g p)) truth_sort
  sort_of g (Expression.PtrOk t p) = where_holds (is_object g.layout t && is_word_of (address_width g.layout.target) (sort_of g p)) truth_sort
  sort_of g (Expression.Global x path) = of_type (g.globals x) (λ t. where_holds (is_object g.layout t) (of_shape (shape_along g path (shape_of g.layout t)) sort_at))
  sort_of g (Expression.Sel e path) = where_holds (is_one_step path) (of_shape (parts_shape g.layout (sort_of g e)) (λ s. of_shape (shape_along g path s) sort_at))
  sort_of g (Expression.Upd e path v) = of_shape (parts_shape g.layout (sort_of g e)) (λ s. of_shape (shape_along g path s) (λ q. where_holds (are_same (sort_at q) (sort_of g v)) (sort_of g e)))

  -- the shape at the end of a path whose members are there, its indices being numbers of any value
  pub shape_along : Scope → Expression.Path → Shape → Option Shape
  shape_along g Expression.Here s = Some s
  shape_along g (Expression.IntoField k path) (Record x n align fs) = shape_in (member_spot fs k) (λ s. shape_along g path s)
  shape_along g (Expression.IntoElement e path) (Row s n) = if is_number (sort_of g e) then shape_along g path s else None
  shape_along g _ _ = None
