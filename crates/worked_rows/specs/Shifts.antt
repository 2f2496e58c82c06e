-- int s(int x,int n){return x<<n;} unsigned u(unsigned x,int n){return x<<n;} int r(int x,int n){return x>>n;}
use Rattle.std.specs.Prelude.{[], ◌∷◌, Some, ℤ, codes}
use Rattle.c_values.specs.Name.{Name}
use Rattle.c_values.specs.Types.{IntType, Int, UInt, Integer}
use Rattle.c_lang.specs.Typed.{Direction, Left, Right, Local, Shift, Return, TypedFn, TypedUnit}
use Rattle.worked_rows.specs.Trees.{int, value, variable, function, unit_of}
use Rattle.worked_rows.specs.Claims.{Case, call, no_memory}

abbrev pub shifting : Name → Direction → IntType → TypedFn
shifting x d i =
    function x (Some (Integer i)) (variable (codes "x") (Integer i) ∷ variable (codes "n") int ∷ []) []
    (Return (Shift d i (Local (codes "x") (Integer i)) (Local (codes "n") int)) ∷ [])

abbrev pub unit : TypedUnit
unit = unit_of [] (shifting (codes "s") Left Int ∷ shifting (codes "u") Left UInt ∷ shifting (codes "r") Right Int ∷ [])

abbrev pub left_signed : ℤ → ℤ → Case
left_signed x n = call unit (codes "s") (value x ∷ value n ∷ []) no_memory

abbrev pub left_unsigned : ℤ → ℤ → Case
left_unsigned x n = call unit (codes "u") (value x ∷ value n ∷ []) no_memory

abbrev pub right_signed : ℤ → ℤ → Case
right_signed x n = call unit (codes "r") (value x ∷ value n ∷ []) no_memory
