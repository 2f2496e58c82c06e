-- unsigned od(unsigned n){unsigned r; if(n==0)return 0; r=ev(n-1); return r;}
-- unsigned ev(unsigned n){unsigned r; if(n==0)return 1; r=od(n-1); return r;}
use Rattle.std.specs.Prelude.{ℕ, [], ◌∷◌, Some, pos, codes}
use Rattle.c_values.specs.Name.{Name}
use Rattle.c_values.specs.Types.{UInt}
use Rattle.c_lang.specs.Typed.{Expr, Local, Compute, Subtract, Equate, Equal, ToLocal, Assigned, Empty, Declare, Call, If, Return, TypedFn, TypedUnit}
use Rattle.worked_rows.specs.Trees.{uint, value, unsigned_literal, variable, function, unit_of}
use Rattle.worked_rows.specs.Claims.{Case, no_memory}

abbrev pub n : Expr
n = Local (codes "n") uint

-- at zero the number, else what the other function gives for one less
abbrev pub parity : Name → Name → ℕ → TypedFn
parity f other at_zero = function f (Some uint) (variable (codes "n") uint ∷ []) (variable (codes "r") uint ∷ [])
    (Declare (codes "r") uint
    ∷ If (Equate Equal uint n (unsigned_literal 0)) (Return (unsigned_literal at_zero)) Empty
    ∷ Call 1 other (Compute Subtract UInt n (unsigned_literal 1) ∷ []) (Assigned uint (ToLocal (codes "r") uint))
    ∷ Return (Local (codes "r") uint) ∷ [])

abbrev pub unit : TypedUnit
unit = unit_of [] (parity (codes "od") (codes "ev") 0 ∷ parity (codes "ev") (codes "od") 1 ∷ [])

-- of a number, at so many turns and a limit of nested calls
abbrev pub even : ℕ → ℕ → ℕ → Case
even k turns depth = record { unit = unit; name = codes "ev"; arguments = value (pos k) ∷ []; turns = turns; depth = Some depth; fill = 0; memory = no_memory }
