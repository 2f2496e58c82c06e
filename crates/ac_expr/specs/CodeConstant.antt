-- What the code's constants stand for.
use Rattle.c_values.specs.Value.{Value, Bits, Number, Truth}
use Rattle.ac_expr.specs.declared.constants.Constant as C

abbrev pub constant_in : C.Constant → Value
constant_in (C.TheVariants.Word w) = Bits w
constant_in (C.TheVariants.Number n) = Number n
constant_in (C.TheVariants.Truth b) = Truth b
