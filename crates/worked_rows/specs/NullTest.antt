-- struct s{int x;}; int h(struct s *p){return p && p->x > 3;}
use Rattle.std.specs.Prelude.{List, [], ◌∷◌, Some, pos, codes}
use Rattle.c_values.specs.Types.{Int, CType, Ptr, Struct}
use Rattle.c_values.specs.Layout.{StructDef}
use Rattle.c_memory.specs.Memory.{Tag, Memory}
use Rattle.c_lang.specs.Typed.{Expr, Local, Value, Through, Member, Here, Compare, Greater, And, Return, TypedUnit}
use Rattle.worked_rows.specs.Trees.{int, value, literal, variable, function, unit_of}
use Rattle.worked_rows.specs.Claims.{Case, call, bytes_from, zeros, tag, no_memory}

abbrev pub s : StructDef
s = record { name = codes "s"; members = record { name = codes "x"; type = int } ∷ [] }

abbrev pub pointer : CType
pointer = Ptr (Struct (codes "s"))

abbrev pub x_above_three : Expr
x_above_three = Compare Greater Int (Value (Through (Struct (codes "s")) (Local (codes "p") pointer) (Member 0 Here) int)) (literal 3)

abbrev pub returned : Expr
returned = And (Local (codes "p") pointer) x_above_three

abbrev pub unit : TypedUnit
unit = unit_of (s ∷ []) (function (codes "h") (Some int) (variable (codes "p") pointer ∷ []) [] (Return returned ∷ []) ∷ [])

-- x is 5 in the struct at 4096
abbrev pub memory : List Tag → Memory
memory tags = record { bytes = bytes_from 4096 (5 ∷ 0 ∷ 0 ∷ 0 ∷ []) zeros; tags = tags }

abbrev pub of_null : Case
of_null = call unit (codes "h") (value (pos 0) ∷ []) no_memory

abbrev pub untagged : Case
untagged = call unit (codes "h") (value (pos 4096) ∷ []) (memory [])

abbrev pub tagged : Case
tagged = call unit (codes "h") (value (pos 4096) ∷ []) (memory (tag 4096 (Struct (codes "s")) ∷ []))
