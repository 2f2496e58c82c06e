-- What the code's operations on words stand for.
use Rattle.c_values.specs.declared.word_operations.WordOp as O
use Rattle.c_values.specs.declared.word_operations.ShiftOp as S
use Rattle.c_values.specs.declared.word_operations.UnaryOp as U
use Rattle.c_values.specs.declared.word_operations.WordTest as T
use Rattle.c_values.specs.Word.{WordOp, Wadd, Wsub, Wmul, Wand, Wor, Wxor, Wudiv, Wumod, Wsdiv, Wsmod, ShiftOp, Wshl, Wushr, Wsshr, UnaryOp, Wneg, Wnot, WordTest, Wult, Wule, Wslt, Wsle}

abbrev pub word_op_of : O.WordOp → WordOp
word_op_of O.TheVariants.Wadd = Wadd
word_op_of O.TheVariants.Wsub = Wsub
word_op_of O.TheVariants.Wmul = Wmul
word_op_of O.TheVariants.Wand = Wand
word_op_of O.TheVariants.Wor = Wor
word_op_of O.TheVariants.Wxor = Wxor
word_op_of O.TheVariants.Wudiv = Wudiv
word_op_of O.TheVariants.Wumod = Wumod
word_op_of O.TheVariants.Wsdiv = Wsdiv
word_op_of O.TheVariants.Wsmod = Wsmod

abbrev pub shift_op_of : S.ShiftOp → ShiftOp
shift_op_of S.TheVariants.Wshl = Wshl
shift_op_of S.TheVariants.Wushr = Wushr
shift_op_of S.TheVariants.Wsshr = Wsshr

abbrev pub unary_op_of : U.UnaryOp → UnaryOp
unary_op_of U.TheVariants.Wneg = Wneg
unary_op_of U.TheVariants.Wnot = Wnot

abbrev pub word_test_of : T.WordTest → WordTest
word_test_of T.TheVariants.Wult = Wult
word_test_of T.TheVariants.Wule = Wule
word_test_of T.TheVariants.Wslt = Wslt
word_test_of T.TheVariants.Wsle = Wsle
