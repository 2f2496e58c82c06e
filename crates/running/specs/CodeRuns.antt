-- What the code knows of where both sides start, and of each side's end.
use Rattle.std.specs.Prelude.{◌≡◌, ℕ, true, List, [], ◌++◌, ◌⊎◌, Some, slice_get}
use Rattle.std.specs.Option.{option_map}
use Rattle.correspondence.specs.Outcome.{Outcome, Done, Failed, Stopped, Turns, Depth, Ends}
use Rattle.c_values.specs.declared.values.Value as V
use Rattle.c_values.specs.CodeNumber.{number_op_of}
use Rattle.c_values.specs.CodeValue.{value_of}
use Rattle.c_memory.specs.CodeHeap as heaps
use Rattle.c_memory.specs.Heap.{Heap, IsHeap}
use Rattle.c_memory.specs.Tags.{IsWellTagged}
use Rattle.c_memory.specs.TagFault.{first_fault}
use Rattle.c_memory.specs.declared.faults.HeapFault.{HeapFault}
use Rattle.typed_heap.specs.CodeCells.{typed_content}
use Rattle.expression_lang.specs.CodeState.{state_of, AreOfTypes}
use Rattle.expression_lang.specs.Evaluation.{State}
use Rattle.expression_lang.specs.GuardKind.{GuardKind}
use Rattle.expression_lang.specs.Machine.{Returned}
use Rattle.expression_lang.specs.Sort.{is_lifted}
use Rattle.simpl_lang.specs.CodeCommand.{guard_kind_of}
use Rattle.monad_lang.specs.Run.{Answer}
use Rattle.program_runs.specs.WideRun.{Trouble, Fails, IsWide}
use Rattle.program_runs.specs.declared.ends.AOutcome as A
use Rattle.command_runs.specs.declared.outcome.COutcome as O
use Rattle.ac_interp.specs.declared.abstract_runs.Ran as R
use Rattle.c_lang.specs.CodeTyped.{function_of, unit_of}
use Rattle.c_lang.specs.Typed.{TypedUnit, TypedFn, typed_fn}
use Rattle.c_lang.specs.WellTyped.{IsWellTyped}
use Rattle.c_meaning.specs.CRun.{plain}
use Rattle.exactness.specs.Exact.{Begin, c_ends, heap_for}
use Rattle.acceptance.specs.Certificate.{Steps}
use Rattle.answers.specs.declared.status.Status.{Status}
use Rattle.answers.specs.declared.status.Status.TheVariants as Answers
use Rattle.memory_text.specs.CodeMemory as texts
use Rattle.memory_text.specs.MemoryText.{Memory, is_memory}
use Rattle.run_start.specs.Start.{begin_of, bytes_in}
use Rattle.run_lines.specs.CodeEnds.{given}
use Rattle.run_lines.specs.RunLines.{Verdict, Agree, Fail, Open, c_lines, program_lines}
use Rattle.run_lines.specs.declared.ends.ProgramStop as P
use Rattle.checking.specs.Checked.{level_in, programs}
use Rattle.running.specs.declared.start.Start as S
use Rattle.running.specs.declared.start.Came as C
use Rattle.running.specs.Runs.{Runs, told, wide_ends}
use Rattle.running.specs.Ran.{OfMemory, IsNoMemory, IsBadlyTagged, HasTooManyTurns, heap_text}

abbrev pub unit_at : S.Start → TypedUnit
unit_at s = unit_of s.unit.now

abbrev pub function_at : S.Start → TypedFn
function_at s = function_of s.function.now

abbrev pub memory_at : S.Start → Memory
memory_at s = texts.memory_of s.memory.now

abbrev pub begin_at : S.Start → Begin
begin_at s = begin_of (unit_at s) (function_at s) (memory_at s)

-- the memory's function stands at the position, and the heap is the memory's
pub record IsStart (s : S.Start) : Type 0 where
  pub typed : IsWellTyped (unit_at s)
  pub memory : is_memory (unit_at s) (memory_at s) ≡ true
  pub named : typed_fn (unit_at s).functions (memory_at s).function ≡ Some (function_at s)
  pub there : slice_get (unit_at s).functions s.position ≡ Some (function_at s)
  pub heap : heaps.memory_of s.heap.now ≡ bytes_in (memory_at s)
  pub tagged : IsWellTagged (unit_at s).layout (heaps.memory_of s.heap.now)

-- what a side came to, as the verdict asks for it

abbrev pub c_came : Outcome Returned GuardKind → C.Came
c_came (Done r) = C.TheVariants.Value
c_came _ = C.TheVariants.Stopped

abbrev pub program_came : Outcome Answer Trouble → C.Came
program_came (Done a) = C.TheVariants.Value
program_came (Failed Fails) = C.TheVariants.Failed
program_came _ = C.TheVariants.Stopped

abbrev pub stop_came : P.ProgramStop → C.Came
stop_came P.TheVariants.Fails = C.TheVariants.Failed
stop_came _ = C.TheVariants.Stopped

abbrev pub verdict_for : C.Came → C.Came → Verdict
verdict_for c C.TheVariants.Failed = Fail
verdict_for C.TheVariants.Value C.TheVariants.Value = Agree
verdict_for c p = Open

-- the ends that a side may come to

abbrev pub c_ends_at : S.Start → Ends Returned GuardKind
c_ends_at s = c_ends (unit_at s) plain (function_at s) (begin_at s)

abbrev pub program_ends_at : S.Start → List Steps → Ends Answer Trouble
program_ends_at s cs =
    let level = level_in cs (function_at s).name in
    wide_ends (unit_at s) level (programs (unit_at s) cs) (function_at s) (begin_at s) (heap_for (unit_at s).layout (is_lifted level) (begin_at s).memory)

-- The C side has come to an end, and its lines stand behind those before.
pub record CSide (s : S.Start) (before after : List ℕ) (came : C.Came) : Type 0 where
  pub end : Outcome Returned GuardKind
  pub ends : c_ends_at s end
  pub written : after ≡ before ++ c_lines (unit_at s) (function_at s) (memory_at s) end
  pub is : came ≡ c_came end

-- the same of the program's side
pub record ProgramSide (s : S.Start) (cs : List Steps) (before after : List ℕ) (came : C.Came) : Type 0 where
  pub end : Outcome Answer Trouble
  pub ends : program_ends_at s cs end
  pub written : after ≡ before ++ program_lines (unit_at s) (function_at s) (memory_at s) (told end)
  pub is : came ≡ program_came end

-- a heap that can be, and values of the globals
pub record IsHeld (s : S.Start) (h : Heap) (values : List V.Value) : Type 0 where
  pub heap : IsHeap (unit_at s).layout h
  pub globals : AreOfTypes (unit_at s).layout s.unit.now.globals.items values

abbrev pub state_held : S.Start → Heap → List V.Value → State
state_held s h values = state_of h s.unit.now.globals.items values

-- the code's outcome is an end of the side; for want of memory there is none

abbrev pub HasCEnd : S.Start → O.COutcome → Type 0
HasCEnd s (O.TheVariants.Value v state) =
    c_ends_at s (Done (record { result = option_map value_of v; state = state_held s (heaps.byte_content state.heap) state.globals.items }))
    × IsHeld s (heaps.byte_content state.heap) state.globals.items
HasCEnd s (O.TheVariants.Guard k) = c_ends_at s (Failed (guard_kind_of k))
HasCEnd s O.TheVariants.OutOfTurns = c_ends_at s (Stopped Turns)
HasCEnd s O.TheVariants.Deep = c_ends_at s (Stopped Depth)
HasCEnd s O.TheVariants.Memory = Unit {0}

abbrev pub HasOutcome : {H : Type 0} → (H → Heap) → S.Start → List Steps → A.AOutcome H → Type 0
HasOutcome content s cs (A.TheVariants.Value v h values) =
    program_ends_at s cs (Done (record { values = given v; state = state_held s (content h) values.items })) × IsHeld s (content h) values.items
HasOutcome content s cs A.TheVariants.Fails = program_ends_at s cs (Failed Fails)
HasOutcome content s cs (A.TheVariants.Wide op a b) =
    program_ends_at s cs (Failed (IsWide (record { op = number_op_of op; first = a; second = b })))
HasOutcome content s cs A.TheVariants.OutOfTurns = program_ends_at s cs (Stopped Turns)
HasOutcome content s cs A.TheVariants.Deep = program_ends_at s cs (Stopped Depth)
HasOutcome content s cs A.TheVariants.Memory = Unit {0}

abbrev pub HasProgramEnd : S.Start → List Steps → R.Ran → Type 0
HasProgramEnd s cs (R.TheVariants.Typed o) = HasOutcome typed_content s cs o
HasProgramEnd s cs (R.TheVariants.Bytes o) = HasOutcome heaps.byte_content s cs o

-- the answer to a memory: its first tag that can't lie there, or both sides
abbrev pub IsRunFrom : TypedUnit → List Steps → Memory → Status → List ℕ → Type 0
IsRunFrom unit cs m Answers.Done lines = Runs unit cs m lines
IsRunFrom unit cs m Answers.Text lines = (fault : HeapFault) × (first_fault unit.layout [] 0 m.tags ≡ Some fault) × (lines ≡ heap_text fault)
IsRunFrom unit cs m _ lines = ⊥

-- the answer to the text of a memory
abbrev pub IsRunOf : TypedUnit → List Steps → List ℕ → Status → List ℕ → Type 0
IsRunOf unit cs text Answers.Done lines = OfMemory unit text lines cs
IsRunOf unit cs text Answers.Limit lines = HasTooManyTurns unit text lines
IsRunOf unit cs text Answers.Text lines = IsNoMemory unit text lines ⊎ IsBadlyTagged unit text lines
IsRunOf unit cs text _ lines = ⊥
