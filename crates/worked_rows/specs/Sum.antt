-- unsigned f(unsigned a, unsigned b){return a+b;}
use Rattle.std.specs.Prelude.{[], ◌∷◌, Some, pos, codes}
use Rattle.c_values.specs.Types.{UInt}
use Rattle.c_lang.specs.Typed.{Local, Compute, Add, Return, TypedUnit}
use Rattle.worked_rows.specs.Trees.{uint, value, variable, function, unit_of}
use Rattle.worked_rows.specs.Claims.{Case, call, no_memory}

abbrev pub unit : TypedUnit
unit = unit_of [] (function (codes "f") (Some uint) (variable (codes "a") uint ∷ variable (codes "b") uint ∷ []) []
    (Return (Compute Add UInt (Local (codes "a") uint) (Local (codes "b") uint)) ∷ []) ∷ [])

-- 4294967295 and 1
abbrev pub greatest_and_one : Case
greatest_and_one = call unit (codes "f") (value (pos 4294967295) ∷ value (pos 1) ∷ []) no_memory
