-- Whether two expressions are the same.
use Rattle.std.specs.Prelude.{ℕ, ◌==◌, Bool, true, false, ◌&&◌}
use Rattle.std.specs.Ordering.{int_eq}
use Rattle.c_values.specs.Name.{same_name}
use Rattle.c_values.specs.Types.{same_type}
use Rattle.c_values.specs.Word.{Word, WordOp, Wadd, Wsub, Wmul, Wand, Wor, Wxor, Wudiv, Wumod, Wsdiv, Wsmod, ShiftOp, Wshl, Wushr, Wsshr, UnaryOp, Wneg, Wnot, WordTest, Wult, Wule, Wslt, Wsle}
use Rattle.c_values.specs.Number.{NumberOp, Add, Sub, Mul, Div, Mod, Neg}
use Rattle.c_values.specs.Value.{same_truth}
use Rattle.expression_lang.specs.Expression.{Exp, Var, WordLit, NumberLit, TruthLit, WordBinary, WordShift, WordUnary, WordCompare, Cast, ToNat, ToInt, ToWord, Arith, Negate, Lt, Le, Between, Eq, And, Or, Imp, Not, If, Padd, At, Load, Read, Tagged, PtrOk, Global, Sel, Upd, Path, Here, IntoField, IntoElement, CastOp, Zext, Sext, Trunc}

abbrev pub number_of_word_op : WordOp → ℕ
number_of_word_op Wadd = 0
number_of_word_op Wsub = 1
number_of_word_op Wmul = 2
number_of_word_op Wand = 3
number_of_word_op Wor = 4
number_of_word_op Wxor = 5
number_of_word_op Wudiv = 6
number_of_word_op Wumod = 7
number_of_word_op Wsdiv = 8
number_of_word_op Wsmod = 9

abbrev pub same_word_op : WordOp → WordOp → Bool
same_word_op a b = number_of_word_op a == number_of_word_op b

abbrev pub number_of_shift_op : ShiftOp → ℕ
number_of_shift_op Wshl = 0
number_of_shift_op Wushr = 1
number_of_shift_op Wsshr = 2

abbrev pub same_shift_op : ShiftOp → ShiftOp → Bool
same_shift_op a b = number_of_shift_op a == number_of_shift_op b

abbrev pub number_of_unary_op : UnaryOp → ℕ
number_of_unary_op Wneg = 0
number_of_unary_op Wnot = 1

abbrev pub same_unary_op : UnaryOp → UnaryOp → Bool
same_unary_op a b = number_of_unary_op a == number_of_unary_op b

abbrev pub number_of_word_test : WordTest → ℕ
number_of_word_test Wult = 0
number_of_word_test Wule = 1
number_of_word_test Wslt = 2
number_of_word_test Wsle = 3

abbrev pub same_word_test : WordTest → WordTest → Bool
same_word_test a b = number_of_word_test a == number_of_word_test b

abbrev pub number_of_cast_op : CastOp → ℕ
number_of_cast_op Zext = 0
number_of_cast_op Sext = 1
number_of_cast_op Trunc = 2

abbrev pub same_cast_op : CastOp → CastOp → Bool
same_cast_op a b = number_of_cast_op a == number_of_cast_op b

abbrev pub number_of_number_op : NumberOp → ℕ
number_of_number_op Add = 0
number_of_number_op Sub = 1
number_of_number_op Mul = 2
number_of_number_op Div = 3
number_of_number_op Mod = 4
number_of_number_op Neg = 5

abbrev pub same_number_op : NumberOp → NumberOp → Bool
same_number_op a b = number_of_number_op a == number_of_number_op b

abbrev pub same_word : Word → Word → Bool
same_word a b = (a.width == b.width) && (a.bits == b.bits)

abbrev mutual
  pub same_exp : Exp → Exp → Bool
  same_exp (Var a) (Var a') = same_name a a'
  same_exp (WordLit a) (WordLit a') = same_word a a'
  same_exp (NumberLit a) (NumberLit a') = int_eq a a'
  same_exp (TruthLit a) (TruthLit a') = same_truth a a'
  same_exp (WordBinary a b c) (WordBinary a' b' c') = same_word_op a a' && same_exp b b' && same_exp c c'
  same_exp (WordShift a b c) (WordShift a' b' c') = same_shift_op a a' && same_exp b b' && same_exp c c'
  same_exp (WordUnary a b) (WordUnary a' b') = same_unary_op a a' && same_exp b b'
  same_exp (WordCompare a b c) (WordCompare a' b' c') = same_word_test a a' && same_exp b b' && same_exp c c'
  same_exp (Cast a b c) (Cast a' b' c') = same_cast_op a a' && (b == b') && same_exp c c'
  same_exp (ToNat a) (ToNat a') = same_exp a a'
  same_exp (ToInt a) (ToInt a') = same_exp a a'
  same_exp (ToWord a b) (ToWord a' b') = (a == a') && same_exp b b'
  same_exp (Arith a b c) (Arith a' b' c') = same_number_op a a' && same_exp b b' && same_exp c c'
  same_exp (Negate a) (Negate a') = same_exp a a'
  same_exp (Lt a b) (Lt a' b') = same_exp a a' && same_exp b b'
  same_exp (Le a b) (Le a' b') = same_exp a a' && same_exp b b'
  same_exp (Between a b c) (Between a' b' c') = int_eq a a' && same_exp b b' && int_eq c c'
  same_exp (Eq a b) (Eq a' b') = same_exp a a' && same_exp b b'
  same_exp (And a b) (And a' b') = same_exp a a' && same_exp b b'
  same_exp (Or a b) (Or a' b') = same_exp a a' && same_exp b b'
  same_exp (Imp a b) (Imp a' b') = same_exp a a' && same_exp b b'
  same_exp (Not a) (Not a') = same_exp a a'
  same_exp (If a b c) (If a' b' c') = same_exp a a' && same_exp b b' && same_exp c c'
  same_exp (Padd a b c) (Padd a' b' c') = same_type a a' && same_exp b b' && same_exp c c'
  same_exp (At a b c) (At a' b' c') = same_type a a' && same_exp b b' && same_path c c'
  same_exp (Load a b c) (Load a' b' c') = same_type a a' && same_exp b b' && same_path c c'
  same_exp (Read a b c) (Read a' b' c') = same_type a a' && same_exp b b' && same_path c c'
  same_exp (Tagged a b) (Tagged a' b') = same_type a a' && same_exp b b'
  same_exp (PtrOk a b) (PtrOk a' b') = same_type a a' && same_exp b b'
  same_exp (Global a b) (Global a' b') = same_name a a' && same_path b b'
  same_exp (Sel a b) (Sel a' b') = same_exp a a' && same_path b b'
  same_exp (Upd a b c) (Upd a' b' c') = same_exp a a' && same_path b b' && same_exp c c'
  same_exp _ _ = false

  pub same_path : Path → Path → Bool
  same_path Here Here = true
  same_path (IntoField a b) (IntoField a' b') = (a == a') && same_path b b'
  same_path (IntoElement a b) (IntoElement a' b') = same_exp a a' && same_path b b'
  same_path _ _ = false
