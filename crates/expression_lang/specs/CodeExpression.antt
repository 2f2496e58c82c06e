-- What the code's expressions, levels and kinds stand for.
use Rattle.std.specs.Prelude.{string_bytes}
use Rattle.expression_lang.specs.declared.expression.Exp as R
use Rattle.expression_lang.specs.declared.expression.CastOp as C
use Rattle.expression_lang.specs.declared.paths.Path as P
use Rattle.expression_lang.specs.declared.sort.Level as L
use Rattle.expression_lang.specs.declared.sort.Kind as K
use Rattle.c_values.specs.CodeTypes.{type_of}
use Rattle.c_values.specs.CodeWord.{word_op_of, shift_op_of, unary_op_of, word_test_of}
use Rattle.c_values.specs.CodeNumber.{number_op_of}
use Rattle.expression_lang.specs.Expression.{CastOp, Zext, Sext, Trunc, Exp, Var, WordLit, NumberLit, TruthLit, WordBinary, WordShift, WordUnary, WordCompare, Cast, ToNat, ToInt, ToWord, Arith, Negate, Lt, Le, Between, Eq, And, Or, Imp, Not, If, Padd, At, Load, Read, Tagged, PtrOk, Global, Sel, Upd, Path, Here, IntoField, IntoElement}
use Rattle.expression_lang.specs.Sort.{Level, Bytes, Words, Numbers, Kind, WordKind, NatKind, IntKind, BoolKind}

abbrev pub cast_op_of : C.CastOp → CastOp
cast_op_of C.TheVariants.Zext = Zext
cast_op_of C.TheVariants.Sext = Sext
cast_op_of C.TheVariants.Trunc = Trunc

abbrev mutual
  pub exp_of : R.Exp → Exp
  exp_of (R.Var x) = Var (string_bytes x)
  exp_of (R.Word w) = WordLit w
  exp_of (R.Number n) = NumberLit n
  exp_of (R.Truth b) = TruthLit b
  exp_of (R.WordBinary' op p a q b) = WordBinary (word_op_of op) (exp_of a) (exp_of b)
  exp_of (R.WordShift' op p a q n) = WordShift (shift_op_of op) (exp_of a) (exp_of n)
  exp_of (R.WordUnary' op p a) = WordUnary (unary_op_of op) (exp_of a)
  exp_of (R.WordCompare' op p a q b) = WordCompare (word_test_of op) (exp_of a) (exp_of b)
  exp_of (R.Cast' op width p a) = Cast (cast_op_of op) width (exp_of a)
  exp_of (R.ToNat' p a) = ToNat (exp_of a)
  exp_of (R.ToInt' p a) = ToInt (exp_of a)
  exp_of (R.ToWord' width p a) = ToWord width (exp_of a)
  exp_of (R.Arith' op p a q b) = Arith (number_op_of op) (exp_of a) (exp_of b)
  exp_of (R.Negate' p a) = Negate (exp_of a)
  exp_of (R.Lt' p a q b) = Lt (exp_of a) (exp_of b)
  exp_of (R.Le' p a q b) = Le (exp_of a) (exp_of b)
  exp_of (R.Between' low p a high) = Between low (exp_of a) high
  exp_of (R.Eq' p a q b) = Eq (exp_of a) (exp_of b)
  exp_of (R.And' p a q b) = And (exp_of a) (exp_of b)
  exp_of (R.Or' p a q b) = Or (exp_of a) (exp_of b)
  exp_of (R.Imp' p a q b) = Imp (exp_of a) (exp_of b)
  exp_of (R.Not' p a) = Not (exp_of a)
  exp_of (R.If' p c q a r b) = If (exp_of c) (exp_of a) (exp_of b)
  exp_of (R.Padd' t p a q n) = Padd (type_of t) (exp_of a) (exp_of n)
  exp_of (R.At' t p a path) = At (type_of t) (exp_of a) (path_of path)
  exp_of (R.Load' t p a path) = Load (type_of t) (exp_of a) (path_of path)
  exp_of (R.Read' t p a path) = Read (type_of t) (exp_of a) (path_of path)
  exp_of (R.Tagged' t p a) = Tagged (type_of t) (exp_of a)
  exp_of (R.PtrOk' t p a) = PtrOk (type_of t) (exp_of a)
  exp_of (R.Global x path) = Global (string_bytes x) (path_of path)
  exp_of (R.Sel' p a path) = Sel (exp_of a) (path_of path)
  exp_of (R.Upd' p a path q b) = Upd (exp_of a) (path_of path) (exp_of b)

  pub path_of : P.Path → Path
  path_of P.Here = Here
  path_of (P.Field' k p rest) = IntoField k (path_of rest)
  path_of (P.Index' p e q rest) = IntoElement (exp_of e) (path_of rest)

abbrev pub level_of : L.Level → Level
level_of L.TheVariants.Bytes = Bytes
level_of L.TheVariants.Words = Words
level_of L.TheVariants.Numbers = Numbers

abbrev pub kind_of : K.Kind → Kind
kind_of (K.TheVariants.Word n) = WordKind n
kind_of (K.TheVariants.Nat n) = NatKind n
kind_of (K.TheVariants.Int n) = IntKind n
kind_of K.TheVariants.Bool = BoolKind
