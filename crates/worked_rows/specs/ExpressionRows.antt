-- Rows of the table of generation: a typed expression, what stands for it, and what has to hold first.
use Rattle.std.specs.Prelude.{◌≡◌, ℕ, List, [], ◌∷◌, pos, codes}
use Rattle.c_values.specs.Types.{CType, Ptr, Struct, Array, Integer, Int, UInt, UChar, LLong, ULLong}
use Rattle.c_values.specs.Layout.{Layout, StructDef}
use Rattle.c_values.specs.Word.{word, Wadd, Wsub, Wmul, Wand, Wor, Wxor, Wudiv, Wumod, Wsdiv, Wsmod, Wshl, Wushr, Wsshr, Wneg, Wnot, Wult, Wule, Wslt, Wsle}
use Rattle.c_values.specs.Number as N
use Rattle.expression_lang.specs.Expression.{Exp, Var, WordLit, WordBinary, WordShift, WordUnary, WordCompare, Cast, Zext, Sext, Trunc, ToNat, ToInt, Arith, Negate as Minus, Le, Between, Eq, And, Or, Imp, Not, If, Padd, At, Load, Tagged, PtrOk, Global, Here, IntoField, IntoElement}
use Rattle.expression_lang.specs.Sort.{Level, Bytes, Words, Numbers}
use Rattle.expression_lang.specs.GuardKind.{Div, Signed, Shift, Pointer, Bounds, Tag, Wrap}
use Rattle.simpl_lang.specs.Command.{Condition}
use Rattle.c_lang.specs.Typed as C
use Rattle.generation.specs.Guards.{when, exp, truth, guards}
use Rattle.worked_rows.specs.Trees.{int, uint, minus, literal, layout}

-- struct s { unsigned x; unsigned char a[4]; };
abbrev pub s : StructDef
s = record { name = codes "s"; members = record { name = codes "x"; type = uint } ∷ record { name = codes "a"; type = Array (Integer UChar) 4 } ∷ [] }

abbrev pub l : Layout
l = layout (s ∷ [])

-- the value and the conditions of an expression
abbrev pub Row : Level → C.Expr → Exp → List Condition → Type 0
Row level e x gs = (exp l e ≡ x) × (guards l level e ≡ gs)

-- the truth and the conditions of an expression
abbrev pub TruthRow : Level → C.Expr → Exp → List Condition → Type 0
TruthRow level e x gs = (truth l e ≡ x) × (guards l level e ≡ gs)

-- int a, b; unsigned u, v; struct s *p; unsigned *q;
abbrev pub a : C.Expr
a = C.Local (codes "a") int

abbrev pub b : C.Expr
b = C.Local (codes "b") int

abbrev pub u : C.Expr
u = C.Local (codes "u") uint

abbrev pub v : C.Expr
v = C.Local (codes "v") uint

abbrev pub p : C.Expr
p = C.Local (codes "p") (Ptr (Struct (codes "s")))

abbrev pub q : C.Expr
q = C.Local (codes "q") (Ptr uint)

abbrev pub A : Exp
A = Var (codes "a")

abbrev pub B : Exp
B = Var (codes "b")

abbrev pub U : Exp
U = Var (codes "u")

abbrev pub V : Exp
V = Var (codes "v")

abbrev pub P : Exp
P = Var (codes "p")

abbrev pub Q : Exp
Q = Var (codes "q")

abbrev pub word32 : ℕ → Exp
word32 n = WordLit (word 32 (pos n))

-- a number is an int, or an unsigned
abbrev pub is_int : Exp → Exp
is_int n = Between (minus 2147483648) n (pos 2147483647)

abbrev pub is_unsigned : Exp → Exp
is_unsigned n = Between (pos 0) n (pos 4294967295)

-- a + b, which the other rows put under conditions
abbrev pub sum : C.Expr
sum = C.Compute C.Add Int a b

abbrev pub sum_fits : Exp
sum_fits = is_int (Arith N.Add (ToInt A) (ToInt B))

abbrev pub quotient : C.Expr
quotient = C.Compute C.Divide UInt u v

abbrev pub divisor_is_not_zero : Exp
divisor_is_not_zero = Not (Eq V (word32 0))

abbrev pub is_not_zero : Exp → Exp
is_not_zero e = Not (Eq e (word32 0))

-- 1 or 0
abbrev pub one_where : Exp → Exp
one_where e = If e (word32 1) (word32 0)

abbrev pub Constants : Type 0
Constants = Row Numbers (C.Constant UInt (pos 7)) (word32 7) []

abbrev pub Conversions : Type 0
Conversions =
    Row Numbers (C.Convert (Integer UChar) a) (Cast Trunc 8 A) []
    × Row Numbers (C.Convert (Integer LLong) a) (Cast Sext 64 A) []
    × Row Numbers (C.Convert (Integer LLong) u) (Cast Zext 64 U) []
    × Row Numbers (C.Convert uint a) A []
    × Row Numbers (C.Convert (Integer ULLong) p) (Cast Zext 64 P) []
    × Row Numbers (C.ConvertNull (Ptr uint) (literal 0)) (word32 0) []
    -- what is converted keeps its conditions
    × Row Numbers (C.Convert (Integer UChar) sum) (Cast Trunc 8 (WordBinary Wadd A B)) (when Signed sum_fits ∷ [])

abbrev pub unsigned_of : C.Arithmetic → C.Expr
unsigned_of op = C.Compute op UInt u v

-- unsigned results are watched at numbers alone
abbrev pub UnsignedArithmetic : Type 0
UnsignedArithmetic =
    Row Numbers (unsigned_of C.Add) (WordBinary Wadd U V) (when Wrap (is_unsigned (Arith N.Add (ToNat U) (ToNat V))) ∷ [])
    × Row Numbers (unsigned_of C.Subtract) (WordBinary Wsub U V) (when Wrap (is_unsigned (Arith N.Sub (ToNat U) (ToNat V))) ∷ [])
    × Row Numbers (unsigned_of C.Multiply) (WordBinary Wmul U V) (when Wrap (is_unsigned (Arith N.Mul (ToNat U) (ToNat V))) ∷ [])
    × Row Words (unsigned_of C.Add) (WordBinary Wadd U V) []
    × Row Bytes (unsigned_of C.Add) (WordBinary Wadd U V) []
    × Row Numbers (C.Negate UInt u) (WordUnary Wneg U) (when Wrap (is_unsigned (Minus (ToNat U))) ∷ [])
    × Row Words (C.Negate UInt u) (WordUnary Wneg U) []

-- signed ones always
abbrev pub SignedArithmetic : Type 0
SignedArithmetic =
    Row Numbers sum (WordBinary Wadd A B) (when Signed sum_fits ∷ [])
    × Row Bytes sum (WordBinary Wadd A B) (when Signed sum_fits ∷ [])
    × Row Bytes (C.Compute C.Subtract Int a b) (WordBinary Wsub A B) (when Signed (is_int (Arith N.Sub (ToInt A) (ToInt B))) ∷ [])
    × Row Bytes (C.Compute C.Multiply Int a b) (WordBinary Wmul A B) (when Signed (is_int (Arith N.Mul (ToInt A) (ToInt B))) ∷ [])
    × Row Bytes (C.Negate Int a) (WordUnary Wneg A) (when Signed (is_int (Minus (ToInt A))) ∷ [])

abbrev pub Quotients : Type 0
Quotients =
    Row Numbers quotient (WordBinary Wudiv U V) (when Div divisor_is_not_zero ∷ [])
    × Row Numbers (C.Compute C.Remainder UInt u v) (WordBinary Wumod U V) (when Div divisor_is_not_zero ∷ [])
    × Row Numbers (C.Compute C.Divide Int a b) (WordBinary Wsdiv A B) (when Div (is_not_zero B) ∷ when Signed (is_int (Arith N.Div (ToInt A) (ToInt B))) ∷ [])
    × Row Numbers (C.Compute C.Remainder Int a b) (WordBinary Wsmod A B) (when Div (is_not_zero B) ∷ when Signed (is_int (Arith N.Div (ToInt A) (ToInt B))) ∷ [])

-- a signed value that is shifted left isn't negative, and its result fits
abbrev pub Shifts : Type 0
Shifts =
    Row Numbers (C.Shift C.Left UInt u a) (WordShift Wshl U (ToInt A)) (when Shift (Between (pos 0) (ToInt A) (pos 31)) ∷ [])
    × Row Numbers (C.Shift C.Left Int a u) (WordShift Wshl A (ToNat U))
    (when Shift (Between (pos 0) (ToNat U) (pos 31)) ∷ when Shift (Between (pos 0) (ToInt A) (pos 2147483647))
    ∷ when Shift (Le (ToInt A) (ToInt (WordShift Wsshr (word32 2147483647) (ToNat U)))) ∷ [])
    × Row Numbers (C.Shift C.Right UInt u a) (WordShift Wushr U (ToInt A)) (when Shift (Between (pos 0) (ToInt A) (pos 31)) ∷ [])
    × Row Numbers (C.Shift C.Right Int a b) (WordShift Wsshr A (ToInt B)) (when Shift (Between (pos 0) (ToInt B) (pos 31)) ∷ [])
    × Row Numbers (C.Shift C.Right ULLong (C.Local (codes "u") (Integer ULLong)) a) (WordShift Wushr U (ToInt A)) (when Shift (Between (pos 0) (ToInt A) (pos 63)) ∷ [])

abbrev pub Bits : Type 0
Bits =
    Row Numbers (C.Combine C.BitAnd UInt u v) (WordBinary Wand U V) []
    × Row Numbers (C.Combine C.BitOr UInt u v) (WordBinary Wor U V) []
    × Row Numbers (C.Combine C.BitXor Int a b) (WordBinary Wxor A B) []
    × Row Numbers (C.Complement UInt u) (WordUnary Wnot U) []

-- the pointer stands first, and the conditions as the operands stand in the text
abbrev pub Moves : Type 0
Moves =
    Row Numbers (C.Move C.Plus uint q a) (Padd uint Q (ToInt A)) []
    × Row Numbers (C.Move C.Minus uint q a) (Padd uint Q (Minus (ToInt A))) []
    × Row Numbers (C.Move C.Plus uint q u) (Padd uint Q (ToNat U)) []
    × Row Numbers (C.MoveBy uint sum q) (Padd uint Q (ToInt (WordBinary Wadd A B))) (when Signed sum_fits ∷ [])

-- p->x, *q and p->a[sum]
abbrev pub member : C.Place
member = C.Through (Struct (codes "s")) p (C.Member 0 C.Here) uint

abbrev pub target_of_q : C.Place
target_of_q = C.Through uint q C.Here uint

abbrev pub element : C.Expr → C.Place
element i = C.Through (Struct (codes "s")) p (C.Member 1 (C.Element 4 i C.Here)) (Integer UChar)

abbrev pub is_root : Exp → CType → List Condition
is_root e t = when Pointer (PtrOk t e) ∷ when Tag (Tagged t e) ∷ []

abbrev pub in_bounds : Exp → Condition
in_bounds n = when Bounds (Between (pos 0) n (pos 3))

-- the bounds of an index, then the pointer, then the tag, which bytes don't ask for
abbrev pub Places : Type 0
Places =
    Row Numbers (C.Value target_of_q) (Load uint Q Here) (is_root Q uint)
    × Row Words (C.Value member) (Load (Struct (codes "s")) P (IntoField 0 Here)) (is_root P (Struct (codes "s")))
    × Row Bytes (C.Value member) (Load (Struct (codes "s")) P (IntoField 0 Here)) (when Pointer (PtrOk (Struct (codes "s")) P) ∷ [])
    × Row Numbers (C.Value (element u)) (Load (Struct (codes "s")) P (IntoField 1 (IntoElement (ToNat U) Here)))
    (in_bounds (ToNat U) ∷ is_root P (Struct (codes "s")))
    -- an index's own conditions first
    × Row Numbers (C.Value (element sum)) (Load (Struct (codes "s")) P (IntoField 1 (IntoElement (ToInt (WordBinary Wadd A B)) Here)))
    (when Signed sum_fits ∷ in_bounds (ToInt (WordBinary Wadd A B)) ∷ is_root P (Struct (codes "s")))

abbrev pub global_element : C.Expr → C.Place
global_element i = C.InGlobal (codes "g") (C.Element 4 i C.Here) uint

abbrev pub Globals : Type 0
Globals =
    Row Numbers (C.Value (C.InGlobal (codes "g") C.Here uint)) (Global (codes "g") Here) []
    × Row Bytes (C.Value (global_element a)) (Global (codes "g") (IntoElement (ToInt A) Here)) (in_bounds (ToInt A) ∷ [])

-- an address asks for bounds alone
abbrev pub Addresses : Type 0
Addresses =
    Row Numbers (C.Address (element a) (Integer UChar)) (At (Struct (codes "s")) P (IntoField 1 (IntoElement (ToInt A) Here))) (in_bounds (ToInt A) ∷ [])
    × Row Numbers (C.Decay (C.Through (Struct (codes "s")) p (C.Member 1 C.Here) (Array (Integer UChar) 4)) (Integer UChar)) (At (Struct (codes "s")) P (IntoField 1 Here)) []

abbrev pub Comparisons : Type 0
Comparisons =
    TruthRow Numbers (C.Compare C.Less Int a b) (WordCompare Wslt A B) []
    × TruthRow Numbers (C.Compare C.LessEqual UInt u v) (WordCompare Wule U V) []
    × TruthRow Numbers (C.Compare C.Greater UInt u v) (WordCompare Wult V U) []
    × TruthRow Numbers (C.Compare C.GreaterEqual Int a b) (WordCompare Wsle B A) []
    × TruthRow Numbers (C.Equate C.Equal int a b) (Eq A B) []
    × TruthRow Numbers (C.Equate C.NotEqual (Ptr uint) q q) (Not (Eq Q Q)) []
    × Row Numbers (C.Compare C.Less UInt u v) (one_where (WordCompare Wult U V)) []

-- any other expression is true where it isn't zero
abbrev pub Truths : Type 0
Truths =
    TruthRow Numbers a (is_not_zero A) []
    × TruthRow Numbers p (is_not_zero P) []
    × TruthRow Numbers (C.Convert int (C.Compare C.Less Int a b)) (is_not_zero (one_where (WordCompare Wslt A B))) []
    × TruthRow Numbers (C.Local (codes "u") (Integer ULLong)) (Not (Eq U (WordLit (word 64 (pos 0))))) []

-- what is asked of an operand that is needed only where another is true, or isn't
abbrev pub Conditional : Type 0
Conditional =
    TruthRow Numbers (C.Not sum) (Not (is_not_zero (WordBinary Wadd A B))) (when Signed sum_fits ∷ [])
    × TruthRow Numbers (C.And v quotient) (And (is_not_zero V) (is_not_zero (WordBinary Wudiv U V))) (when Div (Imp (is_not_zero V) divisor_is_not_zero) ∷ [])
    × TruthRow Numbers (C.Or v quotient) (Or (is_not_zero V) (is_not_zero (WordBinary Wudiv U V))) (when Div (Imp (Not (is_not_zero V)) divisor_is_not_zero) ∷ [])
    × TruthRow Numbers (C.And quotient v) (And (is_not_zero (WordBinary Wudiv U V)) (is_not_zero V)) (when Div divisor_is_not_zero ∷ [])
    × Row Numbers (C.Choose uint v quotient (unsigned_of C.Add)) (If (is_not_zero V) (WordBinary Wudiv U V) (WordBinary Wadd U V))
    (when Div (Imp (is_not_zero V) divisor_is_not_zero) ∷ when Wrap (Imp (Not (is_not_zero V)) (is_unsigned (Arith N.Add (ToNat U) (ToNat V)))) ∷ [])
    -- two conditions, the outer one outside
    × TruthRow Numbers (C.And u (C.Or v quotient)) (And (is_not_zero U) (Or (is_not_zero V) (is_not_zero (WordBinary Wudiv U V))))
    (when Div (Imp (is_not_zero U) (Imp (Not (is_not_zero V)) divisor_is_not_zero)) ∷ [])
