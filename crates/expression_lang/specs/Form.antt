-- Which expressions a program at some form may hold, by a test of each subexpression.
use Rattle.std.specs.Prelude.{Bool, true, false, ◌||◌}
use Rattle.c_values.specs.Word.{WordOp, Wadd, Wsub, Wmul, Wand, Wor, Wxor, Wudiv, Wumod, Wsdiv, Wsmod, UnaryOp, Wneg, Wnot}
use Rattle.expression_lang.specs.Expression.{Exp, Var, WordLit, NumberLit, TruthLit, WordBinary, WordShift, WordUnary, WordCompare, Cast, ToNat, ToInt, ToWord, Arith, Negate, Lt, Le, Between, Eq, And, Or, Imp, Not, If, Padd, At, Load, Read, Tagged, PtrOk, Global, Sel, Upd, Path, Here, IntoField, IntoElement}

abbrev mutual
  -- some subexpression passes the test
  pub has : (Exp → Bool) → Exp → Bool
  has test (Var x) = test (Var x)
  has test (WordLit w) = test (WordLit w)
  has test (NumberLit n) = test (NumberLit n)
  has test (TruthLit b) = test (TruthLit b)
  has test (WordBinary op a b) = test (WordBinary op a b) || has test a || has test b
  has test (WordShift op a n) = test (WordShift op a n) || has test a || has test n
  has test (WordUnary op a) = test (WordUnary op a) || has test a
  has test (WordCompare op a b) = test (WordCompare op a b) || has test a || has test b
  has test (Cast op width a) = test (Cast op width a) || has test a
  has test (ToNat a) = test (ToNat a) || has test a
  has test (ToInt a) = test (ToInt a) || has test a
  has test (ToWord width a) = test (ToWord width a) || has test a
  has test (Arith op a b) = test (Arith op a b) || has test a || has test b
  has test (Negate a) = test (Negate a) || has test a
  has test (Lt a b) = test (Lt a b) || has test a || has test b
  has test (Le a b) = test (Le a b) || has test a || has test b
  has test (Between low a high) = test (Between low a high) || has test a
  has test (Eq a b) = test (Eq a b) || has test a || has test b
  has test (And a b) = test (And a b) || has test a || has test b
  has test (Or a b) = test (Or a b) || has test a || has test b
  has test (Imp a b) = test (Imp a b) || has test a || has test b
  has test (Not a) = test (Not a) || has test a
  has test (If c a b) = test (If c a b) || has test c || has test a || has test b
  has test (Padd t p n) = test (Padd t p n) || has test p || has test n
  has test (At t p path) = test (At t p path) || has test p || path_has test path
  has test (Load t p path) = test (Load t p path) || has test p || path_has test path
  has test (Read t p path) = test (Read t p path) || has test p || path_has test path
  has test (Tagged t p) = test (Tagged t p) || has test p
  has test (PtrOk t p) = test (PtrOk t p) || has test p
  has test (Global x path) = test (Global x path) || path_has test path
  has test (Sel e path) = test (Sel e path) || has test e || path_has test path
  has test (Upd e path v) = test (Upd e path v) || has test e || path_has test path || has test v

  pub path_has : (Exp → Bool) → Path → Bool
  path_has test Here = false
  path_has test (IntoField k path) = path_has test path
  path_has test (IntoElement e path) = has test e || path_has test path

abbrev pub is_load : Exp → Bool
is_load (Load t p path) = true
is_load _ = false

abbrev pub is_read : Exp → Bool
is_read (Read t p path) = true
is_read _ = false

-- in the language of assertions alone
abbrev pub is_part_of_value : Exp → Bool
is_part_of_value (Sel e path) = true
is_part_of_value (Upd e path v) = true
is_part_of_value _ = false

abbrev pub is_arithmetic : WordOp → Bool
is_arithmetic Wadd = true
is_arithmetic Wsub = true
is_arithmetic Wmul = true
is_arithmetic Wand = false
is_arithmetic Wor = false
is_arithmetic Wxor = false
is_arithmetic Wudiv = true
is_arithmetic Wumod = true
is_arithmetic Wsdiv = true
is_arithmetic Wsmod = true

abbrev pub is_negation : UnaryOp → Bool
is_negation Wneg = true
is_negation Wnot = false

-- a sum, difference, product, quotient, remainder, negation or order test of words
abbrev pub is_word_arithmetic : Exp → Bool
is_word_arithmetic (WordBinary op a b) = is_arithmetic op
is_word_arithmetic (WordUnary op a) = is_negation op
is_word_arithmetic (WordCompare op a b) = true
is_word_arithmetic _ = false
