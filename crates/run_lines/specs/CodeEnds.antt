-- What the code's ends stand for, and its values in the order of the globals.
use Rattle.std.specs.Prelude.{ℕ, ◌+◌, ◌^◌, ◌≤◌, List, [], ◌∷◌, ◌++◌, length, Option, Some, None}
use Rattle.correspondence.specs.Outcome.{Outcome, Failed, Stopped, Turns, Depth}
use Rattle.c_values.specs.Name.{Name}
use Rattle.c_values.specs.Value.{Value}
use Rattle.c_values.specs.Layout.{Layout}
use Rattle.c_values.specs.declared.values.Value as V
use Rattle.c_values.specs.declared.values.GlobalVar as G
use Rattle.c_values.specs.CodeNumber.{number_op_of}
use Rattle.c_values.specs.CodeValue.{value_of, global_of}
use Rattle.c_memory.specs.Ranges.{Run}
use Rattle.expression_lang.specs.GuardKind.{GuardKind}
use Rattle.expression_lang.specs.Machine.{Returned}
use Rattle.expression_lang.specs.Wide.{Operation}
use Rattle.monad_lang.specs.Run.{Answer}
use Rattle.simpl_lang.specs.CodeCommand.{guard_kind_of}
use Rattle.run_lines.specs.declared.ends.CStop as C
use Rattle.run_lines.specs.declared.ends.ProgramStop as P
use Rattle.run_lines.specs.declared.ends.Verdict as D
use Rattle.run_lines.specs.RunLines.{Verdict, Agree, Fail, Open, global_line}

abbrev pub c_stop_of : C.CStop → Outcome Returned GuardKind
c_stop_of (C.TheVariants.Guard k) = Failed (guard_kind_of k)
c_stop_of C.TheVariants.OutOfTurns = Stopped Turns
c_stop_of C.TheVariants.Deep = Stopped Depth

abbrev pub program_stop_of : P.ProgramStop → Outcome Answer (Option Operation)
program_stop_of P.TheVariants.Fails = Failed None
program_stop_of (P.TheVariants.Wide op a b) = Failed (Some (record { op = number_op_of op; first = a; second = b }))
program_stop_of P.TheVariants.OutOfTurns = Stopped Turns
program_stop_of P.TheVariants.Deep = Stopped Depth

abbrev pub verdict_of : D.Verdict → Verdict
verdict_of D.TheVariants.Agree = Agree
verdict_of D.TheVariants.Failed = Fail
verdict_of D.TheVariants.Open = Open

-- the values of a program that gives one or none
abbrev pub given : Option V.Value → List Value
given None = []
given (Some v) = value_of v ∷ []

-- a line for each global and its value
abbrev pub each_global_line : Name → Layout → List G.GlobalVar → List V.Value → List ℕ
each_global_line who l (g ∷ gs) (v ∷ vs) = global_line who l (global_of g) (value_of v) ++ each_global_line who l gs vs
each_global_line who l _ _ = []

-- each range ends in the space of 64 bits
abbrev pub EndInSpace : List Run → Type 0
EndInSpace [] = Unit {0}
EndInSpace (r ∷ rs) = (r.address + length r.bytes ≤ 2 ^ 64) × EndInSpace rs
