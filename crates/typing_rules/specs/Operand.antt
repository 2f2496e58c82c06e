-- What an expression is before its value is taken: a value, a local, or a place in memory (C99 6.3.2.1). A value of an array
-- place is a pointer to its first element; arrays in globals have no address in the subset, and are only indexed.
use Rattle.std.specs.Prelude.{Bool, true, false, if◌then◌else◌}
use Rattle.c_values.specs.Name.{Name}
use Rattle.c_values.specs.Types.{CType, Array}
use Rattle.typing_rules.specs.declared.fault.TypeKind.TheVariants.{NotLvalue, OutOfSubset}
use Rattle.typing_rules.specs.Checked.{Ruling, Ruled, Refused, refuse}
use Rattle.c_lang.specs.Cast.{has_cast, place_has_cast}
use Rattle.c_lang.specs.Typed as C

pub data Operand : Type 0 where
  Valued : C.Expr → Operand
  Variable : Name → CType → Operand
  At : C.Place → Operand

-- what becomes of an operand: its value is taken, an element of it is, or it stays a place
pub data Demand : Type 0 where
  ForValue : Demand
  ForElement : Demand
  ForPlace : Demand

-- the value of an operand that is no array
abbrev pub value_in : Operand → C.Expr
value_in (Valued e) = e
value_in (Variable x t) = C.Local x t
value_in (At p) = C.Value p

abbrev pub operand_type : Operand → CType
operand_type (Valued e) = C.type_of e
operand_type (Variable x t) = t
operand_type (At p) = C.place_type p

abbrev pub operand_has_cast : Operand → Bool
operand_has_cast (Valued e) = has_cast e
operand_has_cast (Variable x t) = false
operand_has_cast (At p) = place_has_cast p

-- what is assigned; `&`, `++` and `--` take the same
abbrev pub destination : Operand → Ruling C.Destination
destination (Valued e) = Refused NotLvalue
destination (Variable x t) = Ruled (C.ToLocal x t)
destination (At p) = Ruled (C.ToPlace p)

abbrev pub is_array : CType → Bool
is_array (Array t n) = true
is_array _ = false

-- what an array is of; any other type itself
abbrev pub first_element : CType → CType
first_element (Array t n) = t
first_element t = t

abbrev pub is_in_global : C.Place → Bool
is_in_global (C.InGlobal x path t) = true
is_in_global (C.Through r p path t) = false

-- an array of these elements through a pointer: its value is a pointer to the first, and there is no pointer to an array
abbrev pub decays : Demand → C.Place → CType → Ruling Operand
decays ForValue p t = refuse (is_array t) OutOfSubset (Ruled (Valued (C.Decay p t)))
decays _ p t = Ruled (At p)

-- an array place as an operand that isn't indexed
abbrev pub array_used : Demand → C.Place → Ruling Operand
array_used d p = refuse (is_in_global p) OutOfSubset (decays d p (first_element (C.place_type p)))

abbrev pub used_unindexed : Demand → C.Place → Ruling Operand
used_unindexed d p = if is_array (C.place_type p) then array_used d p else Ruled (At p)

-- a place as an operand
abbrev pub used : Demand → C.Place → Ruling Operand
used ForElement p = Ruled (At p)
used d p = used_unindexed d p

-- the place that a path's last step leads to, with the type there
abbrev pub path_then : C.Path → C.Path → C.Path
path_then C.Here step = step
path_then (C.Member k path) step = C.Member k (path_then path step)
path_then (C.Element n e path) step = C.Element n e (path_then path step)

abbrev pub place_then : C.Place → C.Path → CType → C.Place
place_then (C.Through r p path u) step t = C.Through r p (path_then path step) t
place_then (C.InGlobal x path u) step t = C.InGlobal x (path_then path step) t
