-- unsigned char g(unsigned char a, unsigned char b){return a+b;}
use Rattle.std.specs.Prelude.{[], ◌∷◌, Some, pos, codes}
use Rattle.c_values.specs.Types.{Int, UChar, CType, Integer}
use Rattle.c_lang.specs.Typed.{Local, Convert, Compute, Add, Return, TypedUnit}
use Rattle.worked_rows.specs.Trees.{int, char_value, variable, function, unit_of}
use Rattle.worked_rows.specs.Claims.{Case, call, no_memory}

abbrev pub char : CType
char = Integer UChar

abbrev pub unit : TypedUnit
unit = unit_of [] (function (codes "g") (Some char) (variable (codes "a") char ∷ variable (codes "b") char ∷ []) []
    (Return (Convert char (Compute Add Int (Convert int (Local (codes "a") char)) (Convert int (Local (codes "b") char)))) ∷ []) ∷ [])

abbrev pub greatest_and_one : Case
greatest_and_one = call unit (codes "g") (char_value (pos 255) ∷ char_value (pos 1) ∷ []) no_memory
