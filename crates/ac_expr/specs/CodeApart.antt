-- What the code looks for in two expressions that may be one step apart.
use Rattle.std.specs.Prelude.{◌≡◌, ℕ, suc, ◌+◌, Bool, true, false, not, List, [], ◌∷◌, Option, Some, ◌⊎◌}
use Rattle.c_values.specs.Name.{Name}
use Rattle.c_values.specs.Value.{Number}
use Rattle.expression_lang.specs.Expression.{Exp, Var, WordLit, NumberLit, TruthLit, WordBinary, WordShift, WordUnary, WordCompare, Cast, ToNat, ToInt, ToWord, Arith, Negate, Lt, Le, Between, Eq, And, Or, Imp, Not, If, Padd, At, Load, Read, Tagged, PtrOk, Global, Sel, Upd, Path, Here, IntoField, IntoElement}
use Rattle.expression_lang.specs.Sort.{Scalar, Sort, Scope, sort_of}
use Rattle.ac_expr.specs.Step.{is_wide}

-- a constant that is its own value
abbrev pub is_literal : Exp → Bool
is_literal (WordLit w) = true
is_literal (NumberLit n) = not (is_wide (Number n))
is_literal (TruthLit b) = true
is_literal e = false

-- with other names in scope
abbrev pub with_names : (Name → Option Scalar) → Scope → Scope
with_names names g = record { layout = g.layout; names = names; globals = g.globals }

-- well-sorted, whatever names are in scope
abbrev pub IsSomeSorted : Scope → Exp → Type 0
IsSomeSorted g e = (names : Name → Option Scalar) × (o : Sort) × (sort_of (with_names names g) e ≡ Some o)

abbrev pub IsAmong : Exp → List Exp → Type 0
IsAmong x [] = ⊥
IsAmong x (e ∷ es) = (x ≡ e) ⊎ IsAmong x es

-- how many heads there are
abbrev mutual
  pub size : Exp → ℕ
  size (Var x) = 1
  size (WordLit w) = 1
  size (NumberLit n) = 1
  size (TruthLit b) = 1
  size (WordBinary op a b) = suc (size a + size b)
  size (WordShift op a n) = suc (size a + size n)
  size (WordUnary op a) = suc (size a)
  size (WordCompare op a b) = suc (size a + size b)
  size (Cast op width a) = suc (size a)
  size (ToNat a) = suc (size a)
  size (ToInt a) = suc (size a)
  size (ToWord width a) = suc (size a)
  size (Arith op a b) = suc (size a + size b)
  size (Negate a) = suc (size a)
  size (Lt a b) = suc (size a + size b)
  size (Le a b) = suc (size a + size b)
  size (Between low a high) = suc (size a)
  size (Eq a b) = suc (size a + size b)
  size (And a b) = suc (size a + size b)
  size (Or a b) = suc (size a + size b)
  size (Imp a b) = suc (size a + size b)
  size (Not a) = suc (size a)
  size (If c a b) = suc (size c + size a + size b)
  size (Padd t p n) = suc (size p + size n)
  size (At t p path) = suc (size p + path_size path)
  size (Load t p path) = suc (size p + path_size path)
  size (Read t p path) = suc (size p + path_size path)
  size (Tagged t p) = suc (size p)
  size (PtrOk t p) = suc (size p)
  size (Global x path) = suc (path_size path)
  size (Sel e path) = suc (size e + path_size path)
  size (Upd e path v) = suc (size e + path_size path + size v)

  pub path_size : Path → ℕ
  path_size Here = 0
  path_size (IntoField k path) = path_size path
  path_size (IntoElement e path) = size e + path_size path
