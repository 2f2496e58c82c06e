-- unsigned mid(unsigned l, unsigned r){return (l + r) / 2;} and the same with l + (r - l) / 2
use Rattle.std.specs.Prelude.{[], ◌∷◌, Some, pos, codes}
use Rattle.c_values.specs.Types.{UInt}
use Rattle.c_lang.specs.Typed.{Expr, Local, Compute, Add, Subtract, Divide, Return, TypedUnit}
use Rattle.worked_rows.specs.Trees.{uint, value, unsigned_literal, variable, function, unit_of}
use Rattle.worked_rows.specs.Claims.{Case, call, no_memory}

abbrev pub left : Expr
left = Local (codes "l") uint

abbrev pub right : Expr
right = Local (codes "r") uint

abbrev pub unit : Expr → TypedUnit
unit e = unit_of [] (function (codes "mid") (Some uint) (variable (codes "l") uint ∷ variable (codes "r") uint ∷ []) [] (Return e ∷ []) ∷ [])

abbrev pub half_of_sum : TypedUnit
half_of_sum = unit (Compute Divide UInt (Compute Add UInt left right) (unsigned_literal 2))

abbrev pub with_half_of_difference : TypedUnit
with_half_of_difference = unit (Compute Add UInt left (Compute Divide UInt (Compute Subtract UInt right left) (unsigned_literal 2)))

-- 4294967294 and 4294967295
abbrev pub of_greatest : TypedUnit → Case
of_greatest u = call u (codes "mid") (value (pos 4294967294) ∷ value (pos 4294967295) ∷ []) no_memory
