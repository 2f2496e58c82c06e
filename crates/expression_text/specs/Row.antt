-- How lists that are expressions go on behind their heads.
use Rattle.c_values.specs.Word as W
use Rattle.c_values.specs.Number as N
use Rattle.expression_lang.specs.Expression.{CastOp, Zext, Sext, Trunc}
use Rattle.std.specs.Prelude.{ℕ}
use Rattle.expression_lang.specs.CodeShape.{One, UnaryOne, CastOne, ToNatOne, ToIntOne, ToWordOne, NegateOne, NotOne, Two, BinaryTwo, ShiftTwo, CompareTwo, ArithTwo, LtTwo, LeTwo, EqTwo, AndTwo, OrTwo, ImpTwo, RootTest, TaggedRoot, PtrOkRoot, PlaceHead, AtPlace, LoadPlace, ReadPlace}
use Rattle.expression_text.specs.declared.heads.Head.{Head}
use Rattle.expression_text.specs.declared.heads.Head.TheVariants as H

-- an operation that a width stands before
pub data Sized : Type 0 where
  CastSized : CastOp → Sized
  ToWordSized : Sized

abbrev pub sized_one : Sized → ℕ → One
sized_one (CastSized op) width = CastOne op width
sized_one ToWordSized width = ToWordOne width

pub data Row : Type 0 where
  -- a width and the bits
  WordRow : Row
  UnaryRow : One → Row
  SizedRow : Sized → Row
  TwoRow : Two → Row
  BetweenRow : Row
  IfRow : Row
  PaddRow : Row
  RootRow : RootTest → Row
  PlaceRow : PlaceHead → Row
  GlobalRow : Row
  SelRow : Row
  UpdRow : Row

abbrev pub row_of : Head → Row
row_of H.Word = WordRow
row_of H.Wadd = TwoRow (BinaryTwo W.Wadd)
row_of H.Wsub = TwoRow (BinaryTwo W.Wsub)
row_of H.Wmul = TwoRow (BinaryTwo W.Wmul)
row_of H.Wand = TwoRow (BinaryTwo W.Wand)
row_of H.Wor = TwoRow (BinaryTwo W.Wor)
row_of H.Wxor = TwoRow (BinaryTwo W.Wxor)
row_of H.Wudiv = TwoRow (BinaryTwo W.Wudiv)
row_of H.Wumod = TwoRow (BinaryTwo W.Wumod)
row_of H.Wsdiv = TwoRow (BinaryTwo W.Wsdiv)
row_of H.Wsmod = TwoRow (BinaryTwo W.Wsmod)
row_of H.Wshl = TwoRow (ShiftTwo W.Wshl)
row_of H.Wushr = TwoRow (ShiftTwo W.Wushr)
row_of H.Wsshr = TwoRow (ShiftTwo W.Wsshr)
row_of H.Wneg = UnaryRow (UnaryOne W.Wneg)
row_of H.Wnot = UnaryRow (UnaryOne W.Wnot)
row_of H.Wult = TwoRow (CompareTwo W.Wult)
row_of H.Wule = TwoRow (CompareTwo W.Wule)
row_of H.Wslt = TwoRow (CompareTwo W.Wslt)
row_of H.Wsle = TwoRow (CompareTwo W.Wsle)
row_of H.Zext = SizedRow (CastSized Zext)
row_of H.Sext = SizedRow (CastSized Sext)
row_of H.Trunc = SizedRow (CastSized Trunc)
row_of H.Nat = UnaryRow ToNatOne
row_of H.Int = UnaryRow ToIntOne
row_of H.ToWord = SizedRow ToWordSized
row_of H.Add = TwoRow (ArithTwo N.Add)
row_of H.Sub = TwoRow (ArithTwo N.Sub)
row_of H.Mul = TwoRow (ArithTwo N.Mul)
row_of H.Div = TwoRow (ArithTwo N.Div)
row_of H.Mod = TwoRow (ArithTwo N.Mod)
row_of H.Neg = UnaryRow NegateOne
row_of H.Lt = TwoRow LtTwo
row_of H.Le = TwoRow LeTwo
row_of H.Between = BetweenRow
row_of H.Eq = TwoRow EqTwo
row_of H.And = TwoRow AndTwo
row_of H.Or = TwoRow OrTwo
row_of H.Imp = TwoRow ImpTwo
row_of H.Not = UnaryRow NotOne
row_of H.If = IfRow
row_of H.Padd = PaddRow
row_of H.At = PlaceRow AtPlace
row_of H.Load = PlaceRow LoadPlace
row_of H.Read = PlaceRow ReadPlace
row_of H.Tagged = RootRow TaggedRoot
row_of H.PtrOk = RootRow PtrOkRoot
row_of H.Global = GlobalRow
row_of H.Sel = SelRow
row_of H.Upd = UpdRow

abbrev pub word_op_head : W.WordOp → Head
word_op_head W.Wadd = H.Wadd
word_op_head W.Wsub = H.Wsub
word_op_head W.Wmul = H.Wmul
word_op_head W.Wand = H.Wand
word_op_head W.Wor = H.Wor
word_op_head W.Wxor = H.Wxor
word_op_head W.Wudiv = H.Wudiv
word_op_head W.Wumod = H.Wumod
word_op_head W.Wsdiv = H.Wsdiv
word_op_head W.Wsmod = H.Wsmod

abbrev pub shift_head : W.ShiftOp → Head
shift_head W.Wshl = H.Wshl
shift_head W.Wushr = H.Wushr
shift_head W.Wsshr = H.Wsshr

abbrev pub word_test_head : W.WordTest → Head
word_test_head W.Wult = H.Wult
word_test_head W.Wule = H.Wule
word_test_head W.Wslt = H.Wslt
word_test_head W.Wsle = H.Wsle

-- a negation of two numbers is none of the text
abbrev pub number_op_head : N.NumberOp → Head
number_op_head N.Add = H.Add
number_op_head N.Sub = H.Sub
number_op_head N.Mul = H.Mul
number_op_head N.Div = H.Div
number_op_head N.Mod = H.Mod
number_op_head N.Neg = H.Neg

abbrev pub unary_op_head : W.UnaryOp → Head
unary_op_head W.Wneg = H.Wneg
unary_op_head W.Wnot = H.Wnot

abbrev pub cast_head : CastOp → Head
cast_head Zext = H.Zext
cast_head Sext = H.Sext
cast_head Trunc = H.Trunc

abbrev pub one_head : One → Head
one_head (UnaryOne op) = unary_op_head op
one_head (CastOne op width) = cast_head op
one_head ToNatOne = H.Nat
one_head ToIntOne = H.Int
one_head (ToWordOne width) = H.ToWord
one_head NegateOne = H.Neg
one_head NotOne = H.Not

abbrev pub two_head : Two → Head
two_head (BinaryTwo op) = word_op_head op
two_head (ShiftTwo op) = shift_head op
two_head (CompareTwo op) = word_test_head op
two_head (ArithTwo op) = number_op_head op
two_head LtTwo = H.Lt
two_head LeTwo = H.Le
two_head EqTwo = H.Eq
two_head AndTwo = H.And
two_head OrTwo = H.Or
two_head ImpTwo = H.Imp

abbrev pub root_head : RootTest → Head
root_head TaggedRoot = H.Tagged
root_head PtrOkRoot = H.PtrOk

abbrev pub place_head : PlaceHead → Head
place_head AtPlace = H.At
place_head LoadPlace = H.Load
place_head ReadPlace = H.Read
