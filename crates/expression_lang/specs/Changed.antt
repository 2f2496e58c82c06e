-- An expression with others in place of some of its parts, the outermost first: where the change gives an expression for a
-- part, that stands there and is left as it is; elsewhere the parts of the part are changed.
use Rattle.std.specs.Prelude.{Option, unwrap_or}
use Rattle.expression_lang.specs.Expression.{Exp, Var, WordLit, NumberLit, TruthLit, WordBinary, WordShift, WordUnary, WordCompare, Cast, ToNat, ToInt, ToWord, Arith, Negate, Lt, Le, Between, Eq, And, Or, Imp, Not, If, Padd, At, Load, Read, Tagged, PtrOk, Global, Sel, Upd, Path, Here, IntoField, IntoElement}

abbrev mutual
  pub changed : (Exp → Option Exp) → Exp → Exp
  changed f (Var x) = unwrap_or (f (Var x)) (Var x)
  changed f (WordLit w) = unwrap_or (f (WordLit w)) (WordLit w)
  changed f (NumberLit n) = unwrap_or (f (NumberLit n)) (NumberLit n)
  changed f (TruthLit b) = unwrap_or (f (TruthLit b)) (TruthLit b)
  changed f (WordBinary op a b) = unwrap_or (f (WordBinary op a b)) (WordBinary op (changed f a) (changed f b))
  changed f (WordShift op a n) = unwrap_or (f (WordShift op a n)) (WordShift op (changed f a) (changed f n))
  changed f (WordUnary op a) = unwrap_or (f (WordUnary op a)) (WordUnary op (changed f a))
  changed f (WordCompare op a b) = unwrap_or (f (WordCompare op a b)) (WordCompare op (changed f a) (changed f b))
  changed f (Cast op width a) = unwrap_or (f (Cast op width a)) (Cast op width (changed f a))
  changed f (ToNat a) = unwrap_or (f (ToNat a)) (ToNat (changed f a))
  changed f (ToInt a) = unwrap_or (f (ToInt a)) (ToInt (changed f a))
  changed f (ToWord width a) = unwrap_or (f (ToWord width a)) (ToWord width (changed f a))
  changed f (Arith op a b) = unwrap_or (f (Arith op a b)) (Arith op (changed f a) (changed f b))
  changed f (Negate a) = unwrap_or (f (Negate a)) (Negate (changed f a))
  changed f (Lt a b) = unwrap_or (f (Lt a b)) (Lt (changed f a) (changed f b))
  changed f (Le a b) = unwrap_or (f (Le a b)) (Le (changed f a) (changed f b))
  changed f (Between low a high) = unwrap_or (f (Between low a high)) (Between low (changed f a) high)
  changed f (Eq a b) = unwrap_or (f (Eq a b)) (Eq (changed f a) (changed f b))
  changed f (And a b) = unwrap_or (f (And a b)) (And (changed f a) (changed f b))
  changed f (Or a b) = unwrap_or (f (Or a b)) (Or (changed f a) (changed f b))
  changed f (Imp a b) = unwrap_or (f (Imp a b)) (Imp (changed f a) (changed f b))
  changed f (Not a) = unwrap_or (f (Not a)) (Not (changed f a))
  changed f (If c a b) = unwrap_or (f (If c a b)) (If (changed f c) (changed f a) (changed f b))
  changed f (Padd t p n) = unwrap_or (f (Padd t p n)) (Padd t (changed f p) (changed f n))
  changed f (At t p path) = unwrap_or (f (At t p path)) (At t (changed f p) (changed_path f path))
  changed f (Load t p path) = unwrap_or (f (Load t p path)) (Load t (changed f p) (changed_path f path))
  changed f (Read t p path) = unwrap_or (f (Read t p path)) (Read t (changed f p) (changed_path f path))
  changed f (Tagged t p) = unwrap_or (f (Tagged t p)) (Tagged t (changed f p))
  changed f (PtrOk t p) = unwrap_or (f (PtrOk t p)) (PtrOk t (changed f p))
  changed f (Global x path) = unwrap_or (f (Global x path)) (Global x (changed_path f path))
  changed f (Sel e path) = unwrap_or (f (Sel e path)) (Sel (changed f e) (changed_path f path))
  changed f (Upd e path v) = unwrap_or (f (Upd e path v)) (Upd (changed f e) (changed_path f path) (changed f v))

  pub changed_path : (Exp → Option Exp) → Path → Path
  changed_path f Here = Here
  changed_path f (IntoField k path) = IntoField k (changed_path f path)
  changed_path f (IntoElement e path) = IntoElement (changed f e) (changed_path f path)
