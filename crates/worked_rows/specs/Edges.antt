-- Expressions at the edges of their definitions.
use Rattle.std.specs.Prelude.{ℕ, [], ◌∷◌, ℤ, pos, codes}
use Rattle.c_values.specs.Types.{Ilp32, Lp64, IntType, Int, Integer, Ptr, Struct, Array, width_of}
use Rattle.c_values.specs.Word.{word}
use Rattle.c_values.specs.Value as V
use Rattle.c_values.specs.Layout.{StructDef}
use Rattle.c_values.specs.Name.{with_name}
use Rattle.c_memory.specs.Heap.{OnBytes}
use Rattle.expression_lang.specs.Sort.{Level, Bytes}
use Rattle.expression_lang.specs.Signature.{no_env}
use Rattle.c_lang.specs.Typed.{Arithmetic, Divide, Direction, Relation, Expr, Constant, Local, Value, Convert, Negate, Compute, Shift, Compare, Move, Minus, Through, Member, Element, Here, MoveBy, Plus}
use Rattle.c_meaning.specs.CValue.{Context}
use Rattle.worked_rows.specs.Trees.{int, value}
use Rattle.worked_rows.specs.Claims.{bytes_from, zeros}
use Rattle.worked_rows.specs.ExpressionClaims.{alone}

-- under ILP32, where the hard kinds alone are watched
abbrev pub plainly : Context
plainly = alone Ilp32 Bytes

abbrev pub compute : Arithmetic → IntType → ℤ → ℤ → Expr
compute op i a b = Compute op i (Constant i a) (Constant i b)

abbrev pub negate : IntType → ℤ → Expr
negate i a = Negate i (Constant i a)

-- by a count that is an int
abbrev pub shift : Direction → IntType → ℤ → ℤ → Expr
shift d i a n = Shift d i (Constant i a) (Constant Int n)

abbrev pub compare : Relation → IntType → Expr → Expr → Expr
compare r i a b = Compare r i a b

abbrev pub one_by_zero : Expr
one_by_zero = compute Divide Int (pos 1) (pos 0)

abbrev pub number : ℤ → Expr
number n = Constant Int n

-- an integer of one type, at another
abbrev pub convert : IntType → ℤ → IntType → Expr
convert from n to = Convert (Integer to) (Constant from n)

-- a value of an integer type under ILP32
abbrev pub of_type : IntType → ℤ → V.Value
of_type i n = V.Bits (word (width_of Ilp32 i) n)

-- and under LP64
abbrev pub of_wide_type : IntType → ℤ → V.Value
of_wide_type i n = V.Bits (word (width_of Lp64 i) n)

-- struct s{int a[4]; int x;};
abbrev pub s : StructDef
s = record { name = codes "s"; members = record { name = codes "a"; type = Array int 4 } ∷ record { name = codes "x"; type = int } ∷ [] }

abbrev pub to_s : Expr
to_s = Local (codes "p") (Ptr (Struct (codes "s")))

abbrev pub x_of_p : Expr
x_of_p = Value (Through (Struct (codes "s")) to_s (Member 1 Here) int)

-- p->a[i]
abbrev pub a_of_p : ℤ → Expr
a_of_p i = Value (Through (Struct (codes "s")) to_s (Member 0 (Element 4 (number i) Here)) int)

-- p is at an address; at 4096 and the addresses after it stand 1, 2, 3, 4 and 5
abbrev pub at_address : Level → ℕ → Context
at_address level a = record {
  layout = record { target = Ilp32; structs = s ∷ [] };
  level = level;
  locals = with_name (codes "p") (value (pos a)) no_env;
  state = record { heap = OnBytes (record { bytes = bytes_from 4096 (1 ∷ 0 ∷ 0 ∷ 0 ∷ 2 ∷ 0 ∷ 0 ∷ 0 ∷ 3 ∷ 0 ∷ 0 ∷ 0 ∷ 4 ∷ 0 ∷ 0 ∷ 0 ∷ 5 ∷ 0 ∷ 0 ∷ 0 ∷ []) zeros; tags = [] }); globals = no_env };
}

-- p as a pointer to int
abbrev pub to_int : Expr
to_int = Local (codes "p") (Ptr int)

abbrev pub behind : Expr → Expr
behind p = Value (Through int p Here int)

-- p less so many ints
abbrev pub back_by : ℤ → Expr
back_by n = Move Minus int to_int (number n)

-- so many ints and p
abbrev pub forward_by : Expr → Expr → Expr
forward_by n p = MoveBy int n p

-- p and so many ints
abbrev pub forward : Expr → Expr → Expr
forward p n = Move Plus int p n

-- what p points to, as a pointer to int
abbrev pub pointer_behind : Expr
pointer_behind = Value (Through (Ptr int) (Local (codes "p") (Ptr (Ptr int))) Here (Ptr int))
