-- Arrays of one element around a type, and their values.
use Rattle.std.proofs.Common.{cond, eqb}
use Rattle.c_values.specs.Types.{CType, Integer, Void, Ptr, Struct, Array}
use Rattle.c_values.specs.Value.{Value, Parts, no_values, more}

-- the value of one part
abbrev pub lone : Value → Value
lone v = Parts (more v no_values)

-- what the outermost arrays of one element are around
abbrev pub inside : CType → CType
inside (Array t n) = cond (eqb n 1) (inside t) (Array t n)
inside (Integer i) = Integer i
inside Void = Void
inside (Ptr t) = Ptr t
inside (Struct x) = Struct x

-- a value in as many arrays of one element
abbrev pub around : CType → Value → Value
around (Array t n) v = cond (eqb n 1) (around t (lone v)) v
around (Integer i) v = v
around Void v = v
around (Ptr t) v = v
around (Struct x) v = v
