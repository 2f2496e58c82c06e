-- unsigned cnt(struct node *p, unsigned n){unsigned c=0; while(p->v<n){c=c+1; p=p->next;} return c;}
-- unsigned dw(unsigned n){unsigned c=0; do { n=n-1; if(n==3) continue; c=c+1; } while(n>1); return c;}
use Rattle.std.specs.Prelude.{ℕ, [], ◌∷◌, Some, pos, codes}
use Rattle.c_values.specs.Name.{Name}
use Rattle.c_values.specs.Types.{UInt}
use Rattle.c_memory.specs.Memory.{Memory}
use Rattle.c_lang.specs.Typed.{Expr, Local, Value, Compute, Add, Subtract, Compare, Less, Greater, Equate, Equal, ToLocal, Statement, Empty, Block, Assign, If, While, DoWhile, Continue, Return, TypedFn, TypedUnit}
use Rattle.worked_rows.specs.Trees.{uint, value, unsigned_literal, body, variable, function, unit_of}
use Rattle.worked_rows.specs.Nodes.{node, pointer, node_struct, to_node, v_of, next_of}
use Rattle.worked_rows.specs.Claims.{Case, call, bytes_from, zeros, no_memory, tag}

abbrev pub c : Expr
c = Local (codes "c") uint

abbrev pub n : Expr
n = Local (codes "n") uint

abbrev pub set : Name → Expr → Statement
set x e = Assign (ToLocal x uint) e

abbrev pub count_up : Statement
count_up = set (codes "c") (Compute Add UInt c (unsigned_literal 1))

abbrev pub while_below : TypedFn
while_below = function (codes "cnt") (Some uint) (variable (codes "p") pointer ∷ variable (codes "n") uint ∷ []) (variable (codes "c") uint ∷ [])
    (set (codes "c") (unsigned_literal 0)
    ∷ While (Compare Less UInt (Value (v_of (to_node (codes "p")))) n)
    (Block (body (count_up ∷ Assign (ToLocal (codes "p") pointer) (Value (next_of (to_node (codes "p")))) ∷ [])))
    ∷ Return c ∷ [])

abbrev pub with_continue : TypedFn
with_continue = function (codes "dw") (Some uint) (variable (codes "n") uint ∷ []) (variable (codes "c") uint ∷ [])
    (set (codes "c") (unsigned_literal 0)
    ∷ DoWhile 1
    (Block (body (set (codes "n") (Compute Subtract UInt n (unsigned_literal 1)) ∷ If (Equate Equal uint n (unsigned_literal 3)) Continue Empty ∷ count_up ∷ [])))
    (Compare Greater UInt n (unsigned_literal 1))
    ∷ Return c ∷ [])

abbrev pub unit : TypedUnit
unit = unit_of (node_struct ∷ []) (while_below ∷ with_continue ∷ [])

-- 1 with a next node at 8192, where 9 is; the second node isn't tagged
abbrev pub memory : Memory
memory = record {
  bytes = bytes_from 4096 (1 ∷ 0 ∷ 0 ∷ 0 ∷ 0 ∷ 32 ∷ 0 ∷ 0 ∷ []) (bytes_from 8192 (9 ∷ 0 ∷ 0 ∷ 0 ∷ 0 ∷ 0 ∷ 0 ∷ 0 ∷ []) zeros);
  tags = tag 4096 node ∷ [];
}

abbrev pub counting_below_five : Case
counting_below_five = call unit (codes "cnt") (value (pos 4096) ∷ value (pos 5) ∷ []) memory

abbrev pub from_five : ℕ → Case
from_five turns = record { unit = unit; name = codes "dw"; arguments = value (pos 5) ∷ []; turns = turns; depth = Some 256; fill = 0; memory = no_memory }
