-- The first side of an operation on two.
use Rattle.std.specs.Prelude.{Option, Some, None}
use Rattle.expression_lang.specs.Expression.{Exp, WordBinary, Arith, And}

abbrev pub first_side : Exp → Option Exp
first_side (WordBinary op a b) = Some a
first_side (Arith op a b) = Some a
first_side (And a b) = Some a
first_side e = None
