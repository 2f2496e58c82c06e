-- void swap(unsigned *p, unsigned *q){unsigned t=*p; *p=*q; *q=t;}
use Rattle.std.specs.Prelude.{ℕ, [], ◌∷◌, None, pos, codes}
use Rattle.c_values.specs.Name.{Name}
use Rattle.c_values.specs.Types.{CType, Ptr}
use Rattle.c_memory.specs.Memory.{Memory}
use Rattle.c_lang.specs.Typed.{Local, Value, Place, Through, Here, ToLocal, ToPlace, Assign, TypedUnit}
use Rattle.worked_rows.specs.Trees.{uint, value, variable, function, unit_of}
use Rattle.worked_rows.specs.Claims.{Case, call, bytes_from, zeros, tag}

abbrev pub pointer : CType
pointer = Ptr uint

abbrev pub behind : Name → Place
behind x = Through uint (Local x pointer) Here uint

abbrev pub unit : TypedUnit
unit = unit_of [] (function (codes "swap") None (variable (codes "p") pointer ∷ variable (codes "q") pointer ∷ []) (variable (codes "t") uint ∷ [])
    (Assign (ToLocal (codes "t") uint) (Value (behind (codes "p")))
    ∷ Assign (ToPlace (behind (codes "p"))) (Value (behind (codes "q")))
    ∷ Assign (ToPlace (behind (codes "q"))) (Local (codes "t") uint) ∷ []) ∷ [])

-- 1 and 2, at 4096 and 4100
abbrev pub memory : Memory
memory = record { bytes = bytes_from 4096 (1 ∷ 0 ∷ 0 ∷ 0 ∷ 2 ∷ 0 ∷ 0 ∷ 0 ∷ []) zeros; tags = tag 4096 uint ∷ tag 4100 uint ∷ [] }

abbrev pub swapping : ℕ → ℕ → Case
swapping p q = call unit (codes "swap") (value (pos p) ∷ value (pos q) ∷ []) memory
