-- struct node{unsigned v; struct node *next;};
use Rattle.std.specs.Prelude.{ℕ, [], ◌∷◌, pos, codes}
use Rattle.c_values.specs.Name.{Name}
use Rattle.c_values.specs.Types.{CType, Ptr, Struct}
use Rattle.c_values.specs.Value.{Value, Parts, more, no_values}
use Rattle.c_values.specs.Layout.{StructDef}
use Rattle.c_lang.specs.Typed.{Expr, Local, Place, Through, Member, Here}
use Rattle.worked_rows.specs.Trees.{uint, value}

abbrev pub node : CType
node = Struct (codes "node")

abbrev pub pointer : CType
pointer = Ptr node

abbrev pub node_struct : StructDef
node_struct = record { name = codes "node"; members = record { name = codes "v"; type = uint } ∷ record { name = codes "next"; type = pointer } ∷ [] }

abbrev pub to_node : Name → Expr
to_node x = Local x pointer

-- the members of the node that an expression points to
abbrev pub v_of : Expr → Place
v_of p = Through node p (Member 0 Here) uint

abbrev pub next_of : Expr → Place
next_of p = Through node p (Member 1 Here) pointer

-- a node's value: its number, and the address of the next one
abbrev pub node_value : ℕ → ℕ → Value
node_value v next = Parts (more (value (pos v)) (more (value (pos next)) no_values))
