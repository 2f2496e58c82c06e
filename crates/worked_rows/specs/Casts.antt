-- unsigned char b0(unsigned *p){unsigned char *c=(unsigned char *)p; return *c;}
-- unsigned char b1(unsigned *p){unsigned char r; r=b0(p); return r;}
use Rattle.std.specs.Prelude.{[], ◌∷◌, Some, pos, codes}
use Rattle.c_values.specs.Name.{Name}
use Rattle.c_values.specs.Types.{UChar, CType, Integer, Ptr}
use Rattle.c_memory.specs.Memory.{Memory}
use Rattle.expression_lang.specs.Sort.{Level, Bytes}
use Rattle.c_lang.specs.Typed.{Expr, Local, Value, Convert, Through, Here, ToLocal, Assigned, Declare, Assign, Call, Return, TypedFn, TypedUnit}
use Rattle.worked_rows.specs.Trees.{uint, value, variable, function, unit_of}
use Rattle.worked_rows.specs.Claims.{Case, call, bytes_from, zeros}

abbrev pub char : CType
char = Integer UChar

abbrev pub p : Expr
p = Local (codes "p") (Ptr uint)

abbrev pub first_byte : TypedFn
first_byte = function (codes "b0") (Some char) (variable (codes "p") (Ptr uint) ∷ []) (variable (codes "c") (Ptr char) ∷ [])
    (Assign (ToLocal (codes "c") (Ptr char)) (Convert (Ptr char) p)
    ∷ Return (Value (Through char (Local (codes "c") (Ptr char)) Here char)) ∷ [])

abbrev pub calls_it : TypedFn
calls_it = function (codes "b1") (Some char) (variable (codes "p") (Ptr uint) ∷ []) (variable (codes "r") char ∷ [])
    (Declare (codes "r") char
    ∷ Call 1 (codes "b0") (p ∷ []) (Assigned char (ToLocal (codes "r") char))
    ∷ Return (Local (codes "r") char) ∷ [])

abbrev pub unit : TypedUnit
unit = unit_of [] (first_byte ∷ calls_it ∷ [])

-- both are on bytes
abbrev pub levels : Name → Level
levels x = Bytes

-- 42 at 4096, without a tag
abbrev pub memory : Memory
memory = record { bytes = bytes_from 4096 (42 ∷ 0 ∷ 0 ∷ 0 ∷ []) zeros; tags = [] }

abbrev pub of_42 : Case
of_42 = call unit (codes "b1") (value (pos 4096) ∷ []) memory
