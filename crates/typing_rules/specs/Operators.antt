-- The rules of operators: typed operands to a typed expression, or what is wrong (C99 6.5.3 to 6.5.16).
use Rattle.std.specs.Prelude.{Option, Some, None, Bool, true, false, not, ◌&&◌, ◌||◌, pos, if◌then◌else◌}
use Rattle.std.specs.Ordering.{int_eq}
use Rattle.std.specs.Option.{option_map_or}
use Rattle.c_values.specs.Name.{Name, same_name}
use Rattle.c_values.specs.Types.{Target, IntType, CType, Integer, Void, Ptr, Struct, same_type, same_int_type}
use Rattle.c_values.specs.Layout.{Layout, is_object, is_scalar}
use Rattle.c_grammar.specs.declared.operator.BinaryOperator.{BinaryOperator}
use Rattle.c_grammar.specs.declared.operator.BinaryOperator.TheVariants as B
use Rattle.typing_rules.specs.declared.operators.Meeting.{Meeting}
use Rattle.typing_rules.specs.declared.operators.Meeting.TheVariants as M
use Rattle.typing_rules.specs.declared.operators.Arrival.{Arrival}
use Rattle.typing_rules.specs.declared.operators.Arrival.TheVariants as A
use Rattle.typing_rules.specs.declared.fault.TypeKind.TheVariants.{Mismatch, Incomplete}
use Rattle.typing_rules.specs.Checked.{Ruling, Ruled, Refused, refuse, ◌>=>◌}
use Rattle.c_integers.specs.Integers.{promoted, usual}
use Rattle.typing_rules.specs.Constant.{constant_value}
use Rattle.c_lang.specs.Typed as C

-- a type is this integer type
abbrev pub is_of : IntType → CType → Bool
is_of i (Integer j) = same_int_type i j
is_of i _ = false

-- at an integer type; a conversion stands only where the type is another
abbrev pub to_integer : IntType → C.Expr → C.Expr
to_integer i e = if is_of i (C.type_of e) then e else C.Convert (Integer i) e

abbrev pub is_void : CType → Bool
is_void Void = true
is_void _ = false

abbrev pub is_void_pointer : CType → Bool
is_void_pointer (Ptr t) = is_void t
is_void_pointer _ = false

-- a pointer as one to void
abbrev pub to_void : C.Expr → C.Expr
to_void e = if is_void_pointer (C.type_of e) then e else C.Convert (Ptr Void) e

abbrev pub is_integer : CType → Bool
is_integer (Integer i) = true
is_integer _ = false

-- a constant expression of an integer type with the value 0
abbrev pub is_zero : Layout → C.Expr → Bool
is_zero l e = is_integer (C.type_of e) && option_map_or (λ n. int_eq n (pos 0)) (constant_value l e) false

-- such a one as a pointer to void
abbrev pub is_void_zero : Layout → C.Expr → Bool
is_void_zero l (C.ConvertNull t a) = is_void_pointer t && is_zero l a
is_void_zero l _ = false

-- a null pointer constant (C99 6.3.2.3p3)
abbrev pub is_null : Layout → C.Expr → Bool
is_null l e = is_zero l e || is_void_zero l e

-- the type of an integer
abbrev pub integer_in : CType → Option IntType
integer_in (Integer i) = Some i
integer_in _ = None

-- an integer at its promoted type
abbrev pub promotes : C.Expr → Option IntType → Ruling (IntType × C.Expr)
promotes a (Some i) = Ruled (promoted i, to_integer (promoted i) a)
promotes a None = Refused Mismatch

abbrev pub promotion : C.Expr → Ruling (IntType × C.Expr)
promotion a = promotes a (integer_in (C.type_of a))

abbrev pub promoting : (IntType → C.Expr → C.Expr) → C.Expr → Ruling C.Expr
promoting node a = promotion a >=> λ p. Ruled (node p.0 p.1)

-- a scalar
abbrev pub with_scalar : {A : Type 0} → C.Expr → A → Ruling A
with_scalar a node = refuse (not (is_scalar (C.type_of a))) Mismatch (Ruled node)

-- two scalars
abbrev pub scalars : C.Expr → C.Expr → Ruling (C.Expr × C.Expr)
scalars a b = with_scalar a a >=> λ a'. with_scalar b (a', b)

-- two integers at their common type
pub record Balanced : Type 0 where
  pub type : IntType
  pub left : C.Expr
  pub right : C.Expr

abbrev pub balances : Target → C.Expr → C.Expr → Option IntType → Option IntType → Ruling Balanced
balances t a b (Some i) (Some j) =
    let k = usual t i j in Ruled (record { type = k; left = to_integer k a; right = to_integer k b })
balances t a b _ _ = Refused Mismatch

abbrev pub balance : Target → C.Expr → C.Expr → Ruling Balanced
balance t a b = balances t a b (integer_in (C.type_of a)) (integer_in (C.type_of b))

abbrev pub balanced : Target → (IntType → C.Expr → C.Expr → C.Expr) → C.Expr → C.Expr → Ruling C.Expr
balanced t node a b = balance t a b >=> λ r. Ruled (node r.type r.left r.right)

-- each operand at its promoted type
abbrev pub shifts : C.Direction → C.Expr → C.Expr → Option IntType → Option IntType → Ruling C.Expr
shifts d a b (Some i) (Some j) =
    Ruled (C.Shift d (promoted i) (to_integer (promoted i) a) (to_integer (promoted j) b))
shifts d a b _ _ = Refused Mismatch

abbrev pub shifted : C.Direction → C.Expr → C.Expr → Ruling C.Expr
shifted d a b = shifts d a b (integer_in (C.type_of a)) (integer_in (C.type_of b))

-- a pointer to no object
abbrev pub is_pointer_to_none : Layout → CType → Bool
is_pointer_to_none l (Ptr t) = not (is_object l t)
is_pointer_to_none l _ = false

-- what a pointer type points to, where the other operand is an integer
abbrev pub pointed_in : CType → CType → Option CType
pointed_in (Ptr t) (Integer j) = Some t
pointed_in _ _ = None

-- `+` also takes a pointer on either side, with an integer (C99 6.5.6)
abbrev pub adds : Layout → C.Expr → C.Expr → Option CType → Option CType → Ruling C.Expr
adds l a b (Some t) u = Ruled (C.Move C.Plus t a b)
adds l a b None (Some u) = Ruled (C.MoveBy u a b)
adds l a b None None = balanced l.target (C.Compute C.Add) a b

abbrev pub added : Layout → C.Expr → C.Expr → Ruling C.Expr
added l a b =
    refuse (is_pointer_to_none l (C.type_of a) || is_pointer_to_none l (C.type_of b)) Incomplete
    (adds l a b (pointed_in (C.type_of a) (C.type_of b)) (pointed_in (C.type_of b) (C.type_of a)))

-- and `-` on the left
abbrev pub subtracts : Layout → C.Expr → C.Expr → Option CType → Ruling C.Expr
subtracts l a b (Some t) = Ruled (C.Move C.Minus t a b)
subtracts l a b None = balanced l.target (C.Compute C.Subtract) a b

abbrev pub subtracted : Layout → C.Expr → C.Expr → Ruling C.Expr
subtracted l a b =
    refuse (is_pointer_to_none l (C.type_of a)) Incomplete (subtracts l a b (pointed_in (C.type_of a) (C.type_of b)))

-- at which type two operands meet: pointers at that of both, a null pointer constant at that of the other, or, where one is a
-- pointer to void, at that (C99 6.5.9, 6.5.15)
abbrev pub pointers_meet : Layout → C.Expr → C.Expr → CType → CType → Meeting
pointers_meet l a b t u =
    if same_type t u then M.Same
    else (if is_null l a then M.LeftNull
    else (if is_null l b then M.RightNull
    else (if is_void t || is_void u then M.AtVoid else M.Nowhere)))

abbrev pub meets : Layout → C.Expr → C.Expr → CType → CType → Meeting
meets l a b (Integer i) (Integer j) = M.Integers
meets l a b (Ptr t) (Ptr u) = pointers_meet l a b t u
meets l a b (Ptr t) (Integer j) = if is_null l b then M.RightNull else M.Nowhere
meets l a b (Integer i) (Ptr u) = if is_null l a then M.LeftNull else M.Nowhere
meets l a b _ _ = M.Nowhere

abbrev pub meeting : Layout → C.Expr → C.Expr → Meeting
meeting l a b = meets l a b (C.type_of a) (C.type_of b)

-- two operands at one type
pub record Pair : Type 0 where
  pub type : CType
  pub left : C.Expr
  pub right : C.Expr

abbrev pub at_type : CType → C.Expr → C.Expr → Ruling Pair
at_type t a b = Ruled (record { type = t; left = a; right = b })

abbrev pub met : Target → C.Expr → C.Expr → Meeting → Ruling Pair
met t a b M.Integers = balance t a b >=> λ r. at_type (Integer r.type) r.left r.right
met t a b M.Same = at_type (C.type_of a) a b
met t a b M.LeftNull = at_type (C.type_of b) (C.ConvertNull (C.type_of b) a) b
met t a b M.RightNull = at_type (C.type_of a) a (C.ConvertNull (C.type_of a) b)
met t a b M.AtVoid = at_type (Ptr Void) (to_void a) (to_void b)
met t a b M.Nowhere = Refused Mismatch

abbrev pub paired : Layout → C.Expr → C.Expr → Ruling Pair
paired l a b = met l.target a b (meeting l a b)

abbrev pub equated : Layout → C.Equality → C.Expr → C.Expr → Ruling C.Expr
equated l q a b = paired l a b >=> λ p. Ruled (C.Equate q p.type p.left p.right)

-- the operator of a `binary`, or of a compound assignment
abbrev pub binary : Layout → BinaryOperator → C.Expr → C.Expr → Ruling C.Expr
binary l B.Multiply a b = balanced l.target (C.Compute C.Multiply) a b
binary l B.Divide a b = balanced l.target (C.Compute C.Divide) a b
binary l B.Remainder a b = balanced l.target (C.Compute C.Remainder) a b
binary l B.Add a b = added l a b
binary l B.Subtract a b = subtracted l a b
binary l B.ShiftLeft a b = shifted C.Left a b
binary l B.ShiftRight a b = shifted C.Right a b
binary l B.And a b = balanced l.target (C.Combine C.BitAnd) a b
binary l B.ExclusiveOr a b = balanced l.target (C.Combine C.BitXor) a b
binary l B.Or a b = balanced l.target (C.Combine C.BitOr) a b
binary l B.Less a b = balanced l.target (C.Compare C.Less) a b
binary l B.Greater a b = balanced l.target (C.Compare C.Greater) a b
binary l B.LessEqual a b = balanced l.target (C.Compare C.LessEqual) a b
binary l B.GreaterEqual a b = balanced l.target (C.Compare C.GreaterEqual) a b
binary l B.Equal a b = equated l C.Equal a b
binary l B.NotEqual a b = equated l C.NotEqual a b
binary l B.LogicalAnd a b = scalars a b >=> λ p. Ruled (C.And p.0 p.1)
binary l B.LogicalOr a b = scalars a b >=> λ p. Ruled (C.Or p.0 p.1)

abbrev pub chosen : Layout → C.Expr → C.Expr → C.Expr → Ruling C.Expr
chosen l c a b =
    refuse (not (is_scalar (C.type_of c))) Mismatch (paired l a b >=> λ p. Ruled (C.Choose p.type c p.left p.right))

-- how an expression comes to a pointer type
abbrev pub arrives_from : Layout → CType → C.Expr → CType → Arrival
arrives_from l t e (Ptr u) =
    if same_type t u then A.Same
    else (if is_null l e then A.Null
    else (if is_void t || is_void u then A.Void else A.None))
arrives_from l t e (Integer j) = if is_null l e then A.Null else A.None
arrives_from l t e _ = A.None

abbrev pub arrived : CType → C.Expr → Arrival → Ruling C.Expr
arrived t e A.Same = Ruled e
arrived t e A.Null = Ruled (C.ConvertNull (Ptr t) e)
arrived t e A.Void = Ruled (C.Convert (Ptr t) e)
arrived t e A.None = Refused Mismatch

abbrev pub is_struct : Name → CType → Bool
is_struct x (Struct y) = same_name x y
is_struct x _ = false

-- to a type as by assignment (C99 6.5.16.1); also of arguments, initialisers and returned values
abbrev pub converted : Layout → CType → C.Expr → Ruling C.Expr
converted l (Integer i) e = refuse (not (is_integer (C.type_of e))) Mismatch (Ruled (to_integer i e))
converted l (Ptr t) e = arrived t e (arrives_from l t e (C.type_of e))
converted l (Struct x) e = refuse (not (is_struct x (C.type_of e))) Mismatch (Ruled e)
converted l _ e = Refused Mismatch

-- a cast is between scalars (C99 6.5.4), and stands also where the type is there already
abbrev pub cast : Layout → CType → C.Expr → Ruling C.Expr
cast l (Integer i) e = with_scalar e (C.Convert (Integer i) e)
cast l (Ptr t) e = with_scalar e (if is_null l e then C.ConvertNull (Ptr t) e else C.Convert (Ptr t) e)
cast l _ e = Refused Mismatch
