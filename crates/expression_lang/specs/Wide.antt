-- The first operation on numbers that evaluation meets whose exact result takes more than 128 bits. Operands come in the
-- order of the text, and before their operation; `and`, `or`, `imp` and `if` leave out what those before decide.
use Rattle.std.specs.Prelude.{◌^◌, nat_le, Option, Some, None, ℤ, unsigned_abs, if◌then◌else◌}
use Rattle.c_values.specs.Number.{NumberOp, number_op}
use Rattle.c_values.specs.Value.{number_in, truth_in}
use Rattle.c_values.specs.Layout.{Layout}
use Rattle.expression_lang.specs.Expression.{Exp, Var, WordLit, NumberLit, TruthLit, WordBinary, WordShift, WordUnary, WordCompare, Cast, ToNat, ToInt, ToWord, Arith, Negate, Lt, Le, Between, Eq, And, Or, Imp, Not, If, Padd, At, Load, Read, Tagged, PtrOk, Global, Sel, Upd, Path, Here, IntoField, IntoElement}
use Rattle.expression_lang.specs.Evaluation.{Env, State, value}

-- an operation, with its operands
pub record Operation : Type 0 where
  pub op : NumberOp
  pub first : ℤ
  pub second : ℤ

-- an operation whose exact result has a magnitude of 2^128 or more
abbrev pub wide_operation : NumberOp → ℤ → ℤ → Option Operation
wide_operation op a b = if nat_le (2 ^ 128) (unsigned_abs (number_op op a b)) then Some (record { op = op; first = a; second = b }) else None

-- the first, where there is one, else the second
abbrev pub or_else : Option Operation → Option Operation → Option Operation
or_else (Some x) o = Some x
or_else None o = o

abbrev mutual
  pub wide : Layout → Env → State → Exp → Option Operation
  wide l env s (Var x) = None
  wide l env s (WordLit w) = None
  wide l env s (NumberLit n) = None
  wide l env s (TruthLit b) = None
  wide l env s (WordBinary op a b) = or_else (wide l env s a) (wide l env s b)
  wide l env s (WordShift op a n) = or_else (wide l env s a) (wide l env s n)
  wide l env s (WordUnary op a) = wide l env s a
  wide l env s (WordCompare op a b) = or_else (wide l env s a) (wide l env s b)
  wide l env s (Cast op width a) = wide l env s a
  wide l env s (ToNat a) = wide l env s a
  wide l env s (ToInt a) = wide l env s a
  wide l env s (ToWord width a) = wide l env s a
  wide l env s (Arith op a b) =
      or_else (or_else (wide l env s a) (wide l env s b)) (wide_operation op (number_in (value l env s a)) (number_in (value l env s b)))
  wide l env s (Negate a) = wide l env s a
  wide l env s (Lt a b) = or_else (wide l env s a) (wide l env s b)
  wide l env s (Le a b) = or_else (wide l env s a) (wide l env s b)
  wide l env s (Between low a high) = wide l env s a
  wide l env s (Eq a b) = or_else (wide l env s a) (wide l env s b)
  wide l env s (And a b) = or_else (wide l env s a) (if truth_in (value l env s a) then wide l env s b else None)
  wide l env s (Or a b) = or_else (wide l env s a) (if truth_in (value l env s a) then None else wide l env s b)
  wide l env s (Imp a b) = or_else (wide l env s a) (if truth_in (value l env s a) then wide l env s b else None)
  wide l env s (Not a) = wide l env s a
  wide l env s (If c a b) = or_else (wide l env s c) (if truth_in (value l env s c) then wide l env s a else wide l env s b)
  wide l env s (Padd t p n) = or_else (wide l env s p) (wide l env s n)
  wide l env s (At t p path) = or_else (wide l env s p) (wide_in l env s path)
  wide l env s (Load t p path) = or_else (wide l env s p) (wide_in l env s path)
  wide l env s (Read t p path) = or_else (wide l env s p) (wide_in l env s path)
  wide l env s (Tagged t p) = wide l env s p
  wide l env s (PtrOk t p) = wide l env s p
  wide l env s (Global x path) = wide_in l env s path
  wide l env s (Sel e path) = or_else (wide l env s e) (wide_in l env s path)
  wide l env s (Upd e path v) = or_else (or_else (wide l env s e) (wide_in l env s path)) (wide l env s v)

  -- in the indices of a path
  pub wide_in : Layout → Env → State → Path → Option Operation
  wide_in l env s Here = None
  wide_in l env s (IntoField k path) = wide_in l env s path
  wide_in l env s (IntoElement e path) = or_else (wide l env s e) (wide_in l env s path)
