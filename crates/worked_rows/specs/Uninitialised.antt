-- unsigned u0(void){unsigned x; return x;}
use Rattle.std.specs.Prelude.{ℕ, [], ◌∷◌, Some, codes}
use Rattle.c_lang.specs.Typed.{Local, Declare, Return, TypedUnit}
use Rattle.worked_rows.specs.Trees.{uint, variable, function, unit_of}
use Rattle.worked_rows.specs.Claims.{Case, no_memory}

abbrev pub unit : TypedUnit
unit = unit_of [] (function (codes "u0") (Some uint) [] (variable (codes "x") uint ∷ []) (Declare (codes "x") uint ∷ Return (Local (codes "x") uint) ∷ []) ∷ [])

-- with this fill number
abbrev pub filled : ℕ → Case
filled k = record { unit = unit; name = codes "u0"; arguments = []; turns = 100; depth = Some 256; fill = k; memory = no_memory }
