-- int find(unsigned *a, int n, unsigned k){int i; for(i=0;i<n;i++){if(a[i]==k)return i;} return -1;}
use Rattle.std.specs.Prelude.{ℕ, [], ◌∷◌, Some, pos, codes}
use Rattle.c_values.specs.Types.{Int, Ptr}
use Rattle.c_memory.specs.Memory.{Memory}
use Rattle.c_lang.specs.Typed.{Expr, Local, Value, Through, Here, Negate, Compute, Add, Compare, Less, Equate, Equal, Move, Plus, ToLocal, Tested, Empty, Block, Declare, Assign, If, For, Return, TypedUnit}
use Rattle.worked_rows.specs.Trees.{int, uint, value, literal, body, variable, function, unit_of}
use Rattle.worked_rows.specs.Claims.{Case, bytes_from, zeros, tag}

abbrev pub i : Expr
i = Local (codes "i") int

abbrev pub unit : TypedUnit
unit = unit_of [] (function (codes "find") (Some int)
    (variable (codes "a") (Ptr uint) ∷ variable (codes "n") int ∷ variable (codes "k") uint ∷ []) (variable (codes "i") int ∷ [])
    (Declare (codes "i") int
    ∷ For (body (Assign (ToLocal (codes "i") int) (literal 0) ∷ []))
    (Tested (Compare Less Int i (Local (codes "n") int)))
    (Assign (ToLocal (codes "i") int) (Compute Add Int i (literal 1)))
    (Block (body (If (Equate Equal uint (Value (Through uint (Move Plus uint (Local (codes "a") (Ptr uint)) i) Here uint)) (Local (codes "k") uint)) (Return i) Empty ∷ [])))
    ∷ Return (Negate Int (literal 1)) ∷ []) ∷ [])

-- 5, 7 and 9 from 4096 on
abbrev pub memory : Memory
memory = record {
  bytes = bytes_from 4096 (5 ∷ 0 ∷ 0 ∷ 0 ∷ 7 ∷ 0 ∷ 0 ∷ 0 ∷ 9 ∷ 0 ∷ 0 ∷ 0 ∷ []) zeros;
  tags = tag 4096 uint ∷ tag 4100 uint ∷ tag 4104 uint ∷ [];
}

-- a number among the three, at so many turns
abbrev pub finding : ℕ → ℕ → Case
finding k turns = record { unit = unit; name = codes "find"; arguments = value (pos 4096) ∷ value (pos 3) ∷ value (pos k) ∷ []; turns = turns; depth = Some 256; fill = 0; memory = memory }
