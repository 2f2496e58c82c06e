-- What the evaluation of an expression takes for granted at each of its parts: operands of one width, places that are there,
-- addresses in the space, and names of values without parts. A well-sorted expression has it in a state of its scope.
use Rattle.std.specs.Prelude.{◌≡◌, ◌<◌, true, false, IsSome}
use Rattle.c_values.specs.Types.{CType}
use Rattle.c_values.specs.Width.{IsWidth}
use Rattle.c_values.specs.Value.{Value, word_in}
use Rattle.c_values.specs.Layout.{Layout, is_object, shape_of, space}
use Rattle.c_values.specs.Path.{spot}
use Rattle.c_values.specs.CodeParts.{has_parts}
use Rattle.expression_lang.specs.Expression.{Exp, Var, WordLit, NumberLit, TruthLit, WordBinary, WordShift, WordUnary, WordCompare, Cast, ToNat, ToInt, ToWord, Arith, Negate, Lt, Le, Between, Eq, And, Or, Imp, Not, If, Padd, At, Load, Read, Tagged, PtrOk, Global, Sel, Upd, Path, Here, IntoField, IntoElement}
use Rattle.expression_lang.specs.Evaluation.{Env, State, value, steps}
use Rattle.c_values.specs.CodeFollow.{CanFollow}

-- words of one width
abbrev pub AreAlike : Value → Value → Type 0
AreAlike v w = (word_in v).width ≡ (word_in w).width

-- a root of an object, at an address
pub record IsRoot (l : Layout) (t : CType) (v : Value) : Type 0 where
  pub object : is_object l t ≡ true
  pub address : (word_in v).bits < space l

abbrev mutual
  pub IsReady : Layout → Env → State → Exp → Type 0
  IsReady l env s (Var x) = has_parts (env x) ≡ false
  IsReady l env s (WordLit w) = Unit {0}
  IsReady l env s (NumberLit n) = Unit {0}
  IsReady l env s (TruthLit b) = Unit {0}
  IsReady l env s (WordBinary op a b) = IsReady l env s a × IsReady l env s b × AreAlike (value l env s a) (value l env s b)
  IsReady l env s (WordShift op a n) = IsReady l env s a × IsReady l env s n
  IsReady l env s (WordUnary op a) = IsReady l env s a
  IsReady l env s (WordCompare op a b) = IsReady l env s a × IsReady l env s b × AreAlike (value l env s a) (value l env s b)
  IsReady l env s (Cast op width a) = IsReady l env s a × IsWidth width
  IsReady l env s (ToNat a) = IsReady l env s a
  IsReady l env s (ToInt a) = IsReady l env s a
  IsReady l env s (ToWord width a) = IsReady l env s a × IsWidth width
  IsReady l env s (Arith op a b) = IsReady l env s a × IsReady l env s b
  IsReady l env s (Negate a) = IsReady l env s a
  IsReady l env s (Lt a b) = IsReady l env s a × IsReady l env s b
  IsReady l env s (Le a b) = IsReady l env s a × IsReady l env s b
  IsReady l env s (Between low a high) = IsReady l env s a
  IsReady l env s (Eq a b) = IsReady l env s a × IsReady l env s b
  IsReady l env s (And a b) = IsReady l env s a × IsReady l env s b
  IsReady l env s (Or a b) = IsReady l env s a × IsReady l env s b
  IsReady l env s (Imp a b) = IsReady l env s a × IsReady l env s b
  IsReady l env s (Not a) = IsReady l env s a
  IsReady l env s (If c a b) = IsReady l env s c × IsReady l env s a × IsReady l env s b
  IsReady l env s (Padd t p n) = IsReady l env s p × IsReady l env s n × IsRoot l t (value l env s p)
  IsReady l env s (At t p path) = IsReady l env s p × AreReady l env s path × IsRoot l t (value l env s p)
  IsReady l env s (Load t p path) =
      IsReady l env s p × AreReady l env s path × IsRoot l t (value l env s p) × IsSome (spot (shape_of l t) (steps l env s path))
  IsReady l env s (Read t p path) =
      IsReady l env s p × AreReady l env s path × IsRoot l t (value l env s p) × IsSome (spot (shape_of l t) (steps l env s path))
  IsReady l env s (Tagged t p) = IsReady l env s p × IsRoot l t (value l env s p)
  IsReady l env s (PtrOk t p) = IsReady l env s p × IsRoot l t (value l env s p)
  IsReady l env s (Global x path) = AreReady l env s path × CanFollow (s.globals x) (steps l env s path)
  IsReady l env s (Sel e path) = IsReady l env s e × AreReady l env s path × CanFollow (value l env s e) (steps l env s path)
  IsReady l env s (Upd e path v) = IsReady l env s e × AreReady l env s path × IsReady l env s v

  -- the indices of a path
  pub AreReady : Layout → Env → State → Path → Type 0
  AreReady l env s Here = Unit {0}
  AreReady l env s (IntoField k path) = AreReady l env s path
  AreReady l env s (IntoElement e path) = IsReady l env s e × AreReady l env s path
