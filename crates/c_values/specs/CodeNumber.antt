-- What the code's operations on numbers stand for.
use Rattle.c_values.specs.declared.numbers.NumberOp as N
use Rattle.c_values.specs.Number.{NumberOp, Add, Sub, Mul, Div, Mod, Neg}

abbrev pub number_op_of : N.NumberOp → NumberOp
number_op_of N.TheVariants.Add = Add
number_op_of N.TheVariants.Sub = Sub
number_op_of N.TheVariants.Mul = Mul
number_op_of N.TheVariants.Div = Div
number_op_of N.TheVariants.Mod = Mod
number_op_of N.TheVariants.Neg = Neg
