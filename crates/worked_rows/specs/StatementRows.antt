-- Rows of the table of generation: a typed statement and its command, a function and its body and locals.
use Rattle.std.specs.Prelude.{◌≡◌, ℕ, zero, suc, true, false, List, [], ◌∷◌, ◌++◌, Option, Some, None, pos, codes}
use Rattle.c_values.specs.Types.{Ilp32, CType, Ptr, Struct, Integer, Int, UInt, UChar}
use Rattle.c_values.specs.Word.{Wudiv}
use Rattle.expression_lang.specs.Expression.{Exp, Var, TruthLit, WordBinary, Cast, Zext, Trunc, ToNat, Eq, Or, Imp, Not, Load, Here, IntoField, IntoElement}
use Rattle.expression_lang.specs.Sort.{Level, Bytes, Words, Numbers, Kind, WordKind, NatKind, IntKind, BoolKind}
use Rattle.expression_lang.specs.Signature.{Binder}
use Rattle.expression_lang.specs.GuardKind.{Div, Unreached}
use Rattle.simpl_lang.specs.Command.{Condition, Simpl, Skip, Throw, Set, SetGlobal, Store, Pick, Seq, Cond, Guard, Catch, While, Call}
use Rattle.simpl_lang.specs.Form as forms
use Rattle.c_lang.specs.Typed as C
use Rattle.generation.specs.Guards.{when}
use Rattle.generation.specs.Generate.{command, function_of, guarded, locals, call_local, switch_local, first_local}
use Rattle.worked_rows.specs.Trees.{int, uint, body, variable, function}
use Rattle.worked_rows.specs.ExpressionRows.{s, l, a, u, v, p, q, U, V, P, Q, word32, quotient, divisor_is_not_zero, is_not_zero, is_root, in_bounds, target_of_q, element, global_element}

-- the command of a statement
abbrev pub Row : Level → C.Statement → Simpl → Type 0
Row level t c = command l level t ≡ c

abbrev under : Condition → Simpl → Simpl
under c t = Guard c t

abbrev to : C.Expr → C.Statement
to e = C.Assign (C.ToLocal (codes "u") uint) e

abbrev set_u : Exp → Simpl
set_u e = Set (codes "u") e

abbrev quotient_of : Exp
quotient_of = WordBinary Wudiv U V

abbrev divides : Condition
divides = when Div divisor_is_not_zero

abbrev pub Lists : Type 0
Lists =
    Row Numbers (C.Block (body [])) Skip
    × Row Numbers (C.Block (body (C.Empty ∷ []))) Skip
    × Row Numbers (C.Block (body (to u ∷ to v ∷ to u ∷ []))) (Seq (set_u U) (Seq (set_u V) (set_u U)))
    × Row Numbers (C.Declare (codes "x") int) (Pick (codes "x"))

-- the conditions of the right side, then those of the place
abbrev pub Assignments : Type 0
Assignments =
    Row Numbers (to quotient) (under divides (set_u quotient_of))
    × Row Numbers (C.Assign (C.ToPlace target_of_q) quotient) (guarded (divides ∷ is_root Q uint) (Store uint Q Here quotient_of))
    × Row Bytes (C.Assign (C.ToPlace (global_element u)) quotient)
    (guarded (divides ∷ in_bounds (ToNat U) ∷ []) (SetGlobal (codes "g") (IntoElement (ToNat U) Here) quotient_of))
    -- p->a[u] = p->a[u] asks for the place twice
    × Row Numbers (C.Assign (C.ToPlace (element u)) (C.Value (element u)))
    (guarded (in_bounds (ToNat U) ∷ is_root P (Struct (codes "s")) ++ in_bounds (ToNat U) ∷ is_root P (Struct (codes "s")))
    (Store (Struct (codes "s")) P (IntoField 1 (IntoElement (ToNat U) Here)) (Load (Struct (codes "s")) P (IntoField 1 (IntoElement (ToNat U) Here)))))

abbrev jump : ℕ → Simpl
jump k = Seq (Set (codes "$exn") (word32 k)) Throw

abbrev stops_at : ℕ → Simpl
stops_at k = Cond (Eq (Var (codes "$exn")) (word32 k)) Skip Throw

abbrev called : Simpl
called = Call (Some (call_local 3)) (codes "f") (quotient_of ∷ U ∷ [])

-- the conditions of the arguments around all, those of the target behind the call
abbrev pub Calls : Type 0
Calls =
    Row Numbers (C.Call 1 (codes "f") (u ∷ []) C.NoResult) (Call None (codes "f") (U ∷ []))
    × Row Numbers (C.Call 3 (codes "f") (quotient ∷ u ∷ []) (C.Ignored int)) (under divides called)
    × Row Numbers (C.Call 3 (codes "f") (quotient ∷ u ∷ []) (C.Assigned uint (C.ToPlace target_of_q)))
    (under divides (Seq called (guarded (is_root Q uint) (Store uint Q Here (Var (call_local 3))))))
    × Row Numbers (C.Call 3 (codes "f") (quotient ∷ u ∷ []) (C.Assigned uint (C.ToLocal (codes "c") (Integer UChar))))
    (under divides (Seq called (Set (codes "c") (Cast Trunc 8 (Var (call_local 3))))))
    × Row Numbers (C.Call 3 (codes "f") (quotient ∷ u ∷ []) (C.Returned (Integer UChar) uint))
    (under divides (Seq called (Seq (Set (codes "$ret") (Cast Zext 32 (Var (call_local 3)))) (jump 1))))

abbrev pub Jumps : Type 0
Jumps =
    Row Numbers (C.Return quotient) (under divides (Seq (Set (codes "$ret") quotient_of) (jump 1)))
    × Row Numbers C.ReturnNothing (jump 1)
    × Row Numbers C.Break (jump 2)
    × Row Numbers C.Continue (jump 3)

abbrev pub Choices : Type 0
Choices =
    Row Numbers (C.If quotient (to u) (to v)) (under divides (Cond (is_not_zero quotient_of) (set_u U) (set_u V)))
    × Row Numbers (C.If u (to quotient) C.Empty) (Cond (is_not_zero U) (under divides (set_u quotient_of)) Skip)

abbrev loop_of : List Condition → Exp → Simpl → Simpl
loop_of gs e t = Catch (While gs e t) (stops_at 2)

abbrev body_of : Simpl → Simpl
body_of t = Catch t (stops_at 3)

abbrev first : Exp
first = Var (first_local 2)

abbrev pub Loops : Type 0
Loops =
    Row Numbers (C.While quotient (to u)) (loop_of (divides ∷ []) (is_not_zero quotient_of) (body_of (set_u U)))
    × Row Numbers (C.For (body (to v ∷ [])) (C.Tested quotient) (to quotient) (to u))
    (Seq (set_u V) (loop_of (divides ∷ []) (is_not_zero quotient_of) (Seq (body_of (set_u U)) (under divides (set_u quotient_of)))))
    × Row Numbers (C.For (body []) C.Always C.Empty C.Break) (loop_of [] (TruthLit true) (Seq (body_of (jump 2)) Skip))
    × Row Numbers (C.DoWhile 2 (to u) quotient)
    (Seq (Set (first_local 2) (TruthLit true))
    (loop_of (when Div (Imp (Not first) divisor_is_not_zero) ∷ []) (Or first (is_not_zero quotient_of))
    (Seq (Set (first_local 2) (TruthLit false)) (body_of (set_u U)))))

abbrev is_case : ℕ → Exp
is_case k = Eq (Var (switch_local 1)) (word32 k)

-- each group where its labels are, the default last wherever it stands
abbrev pub Switches : Type 0
Switches =
    Row Numbers (C.Switch 1 UInt quotient
    (C.group (pos 1 ∷ pos 2 ∷ pos 3 ∷ []) false (body (to u ∷ C.Break ∷ []))
    (C.group (pos 4 ∷ []) true (body (C.Break ∷ []))
    (C.group (pos 5 ∷ []) false (body (to v ∷ [])) C.no_groups))))
    (under divides (Seq (Set (switch_local 1) quotient_of) (Catch
    (Cond (Or (is_case 1) (Or (is_case 2) (is_case 3))) (Seq (set_u U) (jump 2))
    (Cond (is_case 5) (set_u V) (jump 2)))
    (stops_at 2))))
    × Row Numbers (C.Switch 1 UInt u C.no_groups) (Seq (Set (switch_local 1) U) (Catch Skip (stops_at 2)))

-- unsigned f(struct s *p, int a) { unsigned u; STATEMENTS }
abbrev with_body : Option CType → List C.Statement → C.TypedFn
with_body result ss = function (codes "f") result (variable (codes "p") (Ptr (Struct (codes "s"))) ∷ variable (codes "a") int ∷ []) (variable (codes "u") uint ∷ []) ss

abbrev body_at : Level → Option CType → List C.Statement → Simpl
body_at level result ss = (function_of l level (with_body result ss)).body

abbrev pub Bodies : Type 0
Bodies =
    (body_at Numbers (Some uint) (to u ∷ []) ≡ Catch (Seq (set_u U) (Guard (when Unreached (TruthLit false)) Skip)) Skip)
    × (body_at Numbers None (to u ∷ []) ≡ Catch (set_u U) Skip)
    × (body_at Numbers None [] ≡ Catch Skip Skip)

abbrev bound : List ℕ → Kind → Binder
bound x k = record { name = x; kind = k }

-- calls, switches and do-whiles in statements of every form
abbrev with_locals : C.TypedFn
with_locals = with_body (Some uint)
    (C.For (body (C.Call 1 (codes "f") [] (C.Assigned int (C.ToLocal (codes "a") int)) ∷ [])) C.Always
    (C.Call 2 (codes "f") [] (C.Ignored (Ptr uint)))
    (C.Switch 1 Int a (C.group [] true (body (C.DoWhile 1 (C.Call 3 (codes "f") [] C.NoResult) a ∷ [])) C.no_groups))
    ∷ C.Call 4 (codes "f") [] (C.Returned (Integer UChar) uint) ∷ [])

abbrev pub Locals : Type 0
Locals =
    (locals Ilp32 Numbers with_locals ≡
    bound (codes "p") (WordKind 32) ∷ bound (codes "a") (IntKind 32) ∷ bound (codes "u") (NatKind 32) ∷ bound (codes "$ret") (NatKind 32)
    ∷ bound (codes "$exn") (WordKind 32) ∷ bound (call_local 1) (IntKind 32) ∷ bound (call_local 2) (WordKind 32) ∷ bound (call_local 4) (NatKind 8)
    ∷ bound (switch_local 1) (IntKind 32) ∷ bound (first_local 1) BoolKind ∷ bound (codes "$thrown") BoolKind ∷ [])
    × (locals Ilp32 Words (with_body None []) ≡
    bound (codes "p") (WordKind 32) ∷ bound (codes "a") (WordKind 32) ∷ bound (codes "u") (WordKind 32)
    ∷ bound (codes "$exn") (WordKind 32) ∷ bound (codes "$thrown") BoolKind ∷ [])

abbrev times : ℕ → C.Statement → List C.Statement
times zero t = []
times (suc n) t = t ∷ times n t

-- void w(unsigned *q) { *q = 0; .. }
abbrev writes : ℕ → C.TypedFn
writes n = function (codes "w") None (variable (codes "q") (Ptr uint) ∷ []) [] (times n (C.Assign (C.ToPlace target_of_q) (C.Constant UInt (pos 0))))

abbrev pub Counts : Type 0
Counts =
    (forms.commands (function_of l Numbers (writes 199)).body ≡ 797)
    × (forms.commands (function_of l Numbers (writes 200)).body ≡ 801)
    × (forms.commands (function_of l Bytes (writes 200)).body ≡ 601)

-- the locals that generation numbers
abbrev pub Names : Type 0
Names = (call_local 3 ≡ codes "$r3") × (switch_local 1 ≡ codes "$sw1") × (first_local 2 ≡ codes "$first2")
