-- int d(int a,int b){return a/b;} int m(int a,int b){return a%b;}
use Rattle.std.specs.Prelude.{[], ◌∷◌, Some, ℤ, codes}
use Rattle.c_values.specs.Name.{Name}
use Rattle.c_values.specs.Types.{Int}
use Rattle.c_lang.specs.Typed.{Arithmetic, Local, Compute, Divide, Remainder, Return, TypedFn, TypedUnit}
use Rattle.worked_rows.specs.Trees.{int, value, variable, function, unit_of}
use Rattle.worked_rows.specs.Claims.{Case, call, no_memory}

abbrev pub of_ints : Name → Arithmetic → TypedFn
of_ints x op = function x (Some int) (variable (codes "a") int ∷ variable (codes "b") int ∷ []) [] (Return (Compute op Int (Local (codes "a") int) (Local (codes "b") int)) ∷ [])

abbrev pub unit : TypedUnit
unit = unit_of [] (of_ints (codes "d") Divide ∷ of_ints (codes "m") Remainder ∷ [])

abbrev pub quotient : ℤ → ℤ → Case
quotient a b = call unit (codes "d") (value a ∷ value b ∷ []) no_memory

abbrev pub remainder : ℤ → ℤ → Case
remainder a b = call unit (codes "m") (value a ∷ value b ∷ []) no_memory
