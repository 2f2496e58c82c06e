-- Short words for the typed trees of the rows, which are written by hand. The target is ILP32 throughout.
use Rattle.std.specs.Prelude.{ℕ, List, [], ◌∷◌, Option, false, ℤ, pos, neg_ℤ}
use Rattle.c_values.specs.Name.{Name}
use Rattle.c_values.specs.Types.{Ilp32, Int, UInt, CType, Integer}
use Rattle.c_values.specs.Word.{word}
use Rattle.c_values.specs.Value.{Value as V, Bits}
use Rattle.c_values.specs.Layout.{Layout, StructDef}
use Rattle.c_lang.specs.Typed.{Expr, Constant, Convert, Statement, Statements, no_statements, next, Variable, TypedFn, TypedUnit}

abbrev pub int : CType
int = Integer Int

abbrev pub uint : CType
uint = Integer UInt

abbrev pub minus : ℕ → ℤ
minus n = neg_ℤ (pos n)

-- a word of 32 bits of a number, and a char
abbrev pub value : ℤ → V
value n = Bits (word 32 n)

abbrev pub char_value : ℤ → V
char_value n = Bits (word 8 n)

abbrev pub literal : ℕ → Expr
literal n = Constant Int (pos n)

-- an int constant where an unsigned is wanted
abbrev pub unsigned_literal : ℕ → Expr
unsigned_literal n = Convert uint (literal n)

abbrev pub body : List Statement → Statements
body [] = no_statements
body (s ∷ ss) = next s (body ss)

abbrev pub variable : Name → CType → Variable
variable x t = record { name = x; type = t }

abbrev pub function : Name → Option CType → List Variable → List Variable → List Statement → TypedFn
function x result params locals ss = record { name = x; result = result; params = params; locals = locals; folds_cast = false; body = body ss }

abbrev pub layout : List StructDef → Layout
layout structs = record { target = Ilp32; structs = structs }

abbrev pub unit_of : List StructDef → List TypedFn → TypedUnit
unit_of structs fs = record { layout = layout structs; globals = []; functions = fs }
