-- struct node *rev(struct node *p){struct node *r=0; while(p){struct node *q=p->next; p->next=r; r=p; p=q;} return r;}
use Rattle.std.specs.Prelude.{[], ◌∷◌, Some, pos, codes}
use Rattle.c_values.specs.Name.{Name}
use Rattle.c_memory.specs.Memory.{Memory}
use Rattle.c_lang.specs.Typed.{Expr, Value, ConvertNull, ToLocal, ToPlace, Statement, Block, Assign, While, Return, TypedUnit}
use Rattle.worked_rows.specs.Trees.{value, literal, body, variable, function, unit_of}
use Rattle.worked_rows.specs.Nodes.{node, pointer, node_struct, to_node, next_of}
use Rattle.worked_rows.specs.Claims.{Case, call, bytes_from, zeros, tag}

abbrev pub p : Expr
p = to_node (codes "p")

abbrev pub set : Name → Expr → Statement
set x e = Assign (ToLocal x pointer) e

abbrev pub unit : TypedUnit
unit = unit_of (node_struct ∷ []) (function (codes "rev") (Some pointer) (variable (codes "p") pointer ∷ []) (variable (codes "r") pointer ∷ variable (codes "q") pointer ∷ [])
    (set (codes "r") (ConvertNull pointer (literal 0))
    ∷ While p (Block (body
    (set (codes "q") (Value (next_of p))
    ∷ Assign (ToPlace (next_of p)) (to_node (codes "r"))
    ∷ set (codes "r") p
    ∷ set (codes "p") (to_node (codes "q")) ∷ [])))
    ∷ Return (to_node (codes "r")) ∷ []) ∷ [])

-- a list of 1 and 2, at 4096 and 4104
abbrev pub memory : Memory
memory = record {
  bytes = bytes_from 4096 (1 ∷ 0 ∷ 0 ∷ 0 ∷ 8 ∷ 16 ∷ 0 ∷ 0 ∷ 2 ∷ 0 ∷ 0 ∷ 0 ∷ 0 ∷ 0 ∷ 0 ∷ 0 ∷ []) zeros;
  tags = tag 4096 node ∷ tag 4104 node ∷ [];
}

abbrev pub of_two : Case
of_two = call unit (codes "rev") (value (pos 4096) ∷ []) memory
