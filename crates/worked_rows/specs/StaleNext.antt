-- unsigned st(struct node *p){p->next->v=1; p->next=0; return p->next->v;}
use Rattle.std.specs.Prelude.{[], ◌∷◌, Some, pos, codes}
use Rattle.c_lang.specs.Typed.{Expr, Value, ConvertNull, ToPlace, Assign, Return, TypedUnit}
use Rattle.worked_rows.specs.Trees.{uint, value, literal, unsigned_literal, variable, function, unit_of}
use Rattle.worked_rows.specs.Nodes.{pointer, node_struct, to_node, v_of, next_of}
use Rattle.worked_rows.specs.Reversal.{memory}
use Rattle.worked_rows.specs.Claims.{Case, call}

abbrev pub p : Expr
p = to_node (codes "p")

abbrev pub unit : TypedUnit
unit = unit_of (node_struct ∷ []) (function (codes "st") (Some uint) (variable (codes "p") pointer ∷ []) []
    (Assign (ToPlace (v_of (Value (next_of p)))) (unsigned_literal 1)
    ∷ Assign (ToPlace (next_of p)) (ConvertNull pointer (literal 0))
    ∷ Return (Value (v_of (Value (next_of p)))) ∷ []) ∷ [])

abbrev pub of_two : Case
of_two = call unit (codes "st") (value (pos 4096) ∷ []) memory
