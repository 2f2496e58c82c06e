-- What the code that runs programs works on, and what its answers stand for.
use Rattle.std.specs.Prelude.{◌≡◌, ℕ, ◌≤◌, pos, false, List, [], ◌∷◌, map, take, reverse, length, Option, Some, None, Result, Ok, Err, string_bytes, slice_get}
use Rattle.std.specs.Option.{IsSomeAnd}
use Rattle.correspondence.specs.Outcome.{Turns as OutOfTurns, Depth, Done, Failed, Stopped, Ends}
use Rattle.c_values.specs.Word.{word}
use Rattle.c_values.specs.Value.{Value, Bits, Truth}
use Rattle.c_values.specs.Layout.{Layout}
use Rattle.c_values.specs.Choice.{Fill}
use Rattle.c_values.specs.declared.values.Value as V
use Rattle.c_values.specs.declared.values.GlobalVar as G
use Rattle.c_values.specs.CodeValue.{value_of}
use Rattle.c_values.specs.CodeNumber.{number_op_of}
use Rattle.c_values.specs.declared.program.Program as U
use Rattle.c_memory.specs.Heap.{Heap, IsHeap, heap_tags}
use Rattle.expression_lang.specs.Sort.{Scope, Kind, WordKind, NatKind, IntKind, BoolKind, sort_of_kind}
use Rattle.expression_lang.specs.Signature.{Invocation, kinds_of}
use Rattle.expression_lang.specs.View.{view_at}
use Rattle.expression_lang.specs.Evaluation.{State}
use Rattle.expression_lang.specs.Wide.{Operation}
use Rattle.expression_lang.specs.CodeExpression.{exp_of, kind_of}
use Rattle.expression_lang.specs.CodeSignature.{binder_of}
use Rattle.expression_lang.specs.CodeState.{Bindings, state_of, AreOfTypes}
use Rattle.monad_lang.specs.declared.program.FinalFn as F
use Rattle.monad_lang.specs.Program.{final_fn}
use Rattle.monad_lang.specs.Run.{Answer}
use Rattle.monad_lang.specs.CodeProgram.{mon_of, final_fn_of, final_unit_of}
use Rattle.program_facts.specs.Lasting.{AreOfSorts}
use Rattle.program_runs.specs.declared.ends.AOutcome as O
use Rattle.program_runs.specs.declared.ends.Stop as P
use Rattle.program_runs.specs.declared.machine.AState as A
use Rattle.program_runs.specs.declared.machine.Bound as B
use Rattle.program_runs.specs.declared.machine.Turns as T
use Rattle.program_runs.specs.declared.machine.Pending as W
use Rattle.program_runs.specs.declared.machine.Next as N
use Rattle.program_runs.specs.WideRun.{Trouble, Fails, IsWide, wide_program_runs}
use Rattle.program_runs.specs.Machine.{Bound, Turns, Pending, Rest, Turn, Caller, Now, Running, Turning, Gave, Machine, setting_at}

abbrev pub state_in : {H : Type 0} → (H → Heap) → U.Program F.FinalFn → A.AState H → State
state_in content u s = state_of (content s.heap) u.globals.items s.globals.items

-- the heap is well-tagged, and each global has a value of its type
pub record IsStateOf {H : Type 0} (content : H → Heap) (u : U.Program F.FinalFn) (s : A.AState H) : Type 0 where
  pub heap : IsHeap u.layout (content s.heap)
  pub globals : AreOfTypes u.layout u.globals.items s.globals.items

-- what is in scope where names have these values
abbrev pub scope_of : U.Program F.FinalFn → Bindings → Scope
scope_of u bs = (setting_at (final_unit_of u) bs).scope

-- evaluation comes to the operation that is wide; want of memory may come at any place
abbrev pub IsMet : Option Operation → P.Stop → Type 0
IsMet o (P.TheVariants.Wide op a b) = o ≡ Some (record { op = number_op_of op; first = a; second = b })
IsMet o P.TheVariants.Memory = Unit {0}
IsMet o _ = ⊥

-- a run stops for this reason; for want of memory it comes nowhere
abbrev pub HasStopped : Ends Answer Trouble → P.Stop → Type 0
HasStopped ends P.TheVariants.Fails = ends (Failed Fails)
HasStopped ends (P.TheVariants.Wide op a b) = ends (Failed (IsWide (record { op = number_op_of op; first = a; second = b })))
HasStopped ends P.TheVariants.OutOfTurns = ends (Stopped OutOfTurns)
HasStopped ends P.TheVariants.Deep = ends (Stopped Depth)
HasStopped ends P.TheVariants.Memory = Unit {0}

abbrev pub bound_of : B.Bound → Bound
bound_of b = record { turns = b.turns; depth = b.depth }

abbrev pub turns_of : T.Turns → Turns
turns_of t = record { names = map (λ s. string_bytes s.name) t.starts.now; guard = exp_of t.guard.now; test = exp_of t.test.now; body = mon_of t.body.now; left = bound_of t.left }

-- over these bindings, the next first
abbrev pub stack_of : Bindings → List W.Pending → List Pending
stack_of bs [] = []
stack_of bs (W.TheVariants.Rest xs n mark b ∷ fs) = Rest (take mark bs) (map string_bytes xs.now) (mon_of n.now) (bound_of b) ∷ stack_of (take mark bs) fs
stack_of bs (W.TheVariants.Turn t mark ∷ fs) = Turn (take mark bs) (turns_of t) ∷ stack_of (take mark bs) fs
stack_of bs (W.TheVariants.Caller env ∷ fs) = Caller ∷ stack_of env.items fs

-- each number is one of bindings that are there
abbrev pub AreMarked : ℕ → List W.Pending → Type 0
AreMarked n [] = Unit {0}
AreMarked n (W.TheVariants.Rest xs m mark b ∷ fs) = (mark ≤ n) × AreMarked mark fs
AreMarked n (W.TheVariants.Turn t mark ∷ fs) = (mark ≤ n) × AreMarked mark fs
AreMarked n (W.TheVariants.Caller env ∷ fs) = AreMarked (length env.items) fs

abbrev pub now_of : Bindings → N.Next → Now
now_of bs (N.TheVariants.Running m b) = Running bs (mon_of m.now) (bound_of b)
now_of bs (N.TheVariants.Turning t vs) = Turning bs (turns_of t) (map value_of vs.items)
now_of bs (N.TheVariants.Gave vs) = Gave (map value_of vs.items)

-- what a fill number picks at a kind
abbrev pub picked_value : ℕ → Kind → Value
picked_value k (WordKind n) = view_at (WordKind n) (Bits (word n (pos k)))
picked_value k (NatKind n) = view_at (NatKind n) (Bits (word n (pos k)))
picked_value k (IntKind n) = view_at (IntKind n) (Bits (word n (pos k)))
picked_value k BoolKind = Truth false

-- over what the code has pending, the last first
abbrev pub machine_at : Bindings → List W.Pending → Now → State → Machine
machine_at bs items now s = record { stack = stack_of bs (reverse items); now = now; state = s }

-- of what is next
abbrev pub machine_in : {H : Type 0} → (H → Heap) → U.Program F.FinalFn → Bindings → List W.Pending → N.Next → A.AState H → Machine
machine_in content u bs items next s = machine_at bs items (now_of bs next) (state_in content u s)

-- a call of a function of the unit
abbrev pub call_of : F.FinalFn → List Value → State → Invocation
call_of f vs s = record { name = string_bytes f.name; arguments = vs; state = s }

-- one value for each parameter, of its kind's sort
abbrev pub AreArguments : F.FinalFn → List Value → Type 0
AreArguments f vs = AreOfSorts (map sort_of_kind (kinds_of (map binder_of f.params.items))) vs

-- position f is a function's, and the values are arguments of it
abbrev pub TakesThem : U.Program F.FinalFn → ℕ → List Value → Type 0
TakesThem u f vs = IsSomeAnd (slice_get u.functions.items f) (λ g. AreArguments g vs)

-- a function of the unit, found by its name, and values for its parameters
pub record CanBeCalled (u : U.Program F.FinalFn) (f : F.FinalFn) (vs : List Value) : Type 0 where
  pub found : final_fn (map final_fn_of u.functions.items) (string_bytes f.name) ≡ Some (final_fn_of f)
  pub arguments : AreArguments f vs

-- one value for each result, of its kind's sort
abbrev pub AreResults : F.FinalFn → List Value → Type 0
AreResults f vs = AreOfSorts (map sort_of_kind (map kind_of f.results.items)) vs

-- the values that a result is
abbrev pub values_in : Option V.Value → List Value
values_in None = []
values_in (Some v) = value_of v ∷ []

-- the ends of a call, at a bound and under a fill number
abbrev pub ends_of_call : U.Program F.FinalFn → ℕ → ℕ → F.FinalFn → List Value → State → Ends Answer Trouble
ends_of_call u k turns f vs s = wide_program_runs (final_unit_of u) (Fill k) turns (Some 256) (call_of f vs s)

-- an outcome is an end of the run; for want of memory there is none
abbrev pub IsEnd : {H : Type 0} → (H → Heap) → U.Program F.FinalFn → Ends Answer Trouble → O.AOutcome H → Type 0
IsEnd content u ends (O.TheVariants.Value v h globals) = ends (Done (record { values = values_in v; state = state_of (content h) u.globals.items globals.items }))
IsEnd content u ends O.TheVariants.Fails = ends (Failed Fails)
IsEnd content u ends (O.TheVariants.Wide op a b) = ends (Failed (IsWide (record { op = number_op_of op; first = a; second = b })))
IsEnd content u ends O.TheVariants.OutOfTurns = ends (Stopped OutOfTurns)
IsEnd content u ends O.TheVariants.Deep = ends (Stopped Depth)
IsEnd content u ends O.TheVariants.Memory = Unit {0}

-- a heap that can be, with the tags of another, and each global has a value of its type
pub record Lasts (l : Layout) (vars : List G.GlobalVar) (before after : Heap) (values : List V.Value) : Type 0 where
  pub heap : IsHeap l after
  pub tags : heap_tags after ≡ heap_tags before
  pub globals : AreOfTypes l vars values

-- where an outcome has a heap and globals, they are such
abbrev pub OnLasting : {H : Type 0} → (H → Heap) → U.Program F.FinalFn → Heap → O.AOutcome H → Type 0
OnLasting content u before (O.TheVariants.Value v h globals) = Lasts u.layout u.globals.items before (content h) globals.items
OnLasting content u before _ = Unit {0}

-- where an outcome gives values, they are the function's results
abbrev pub OnResults : {H : Type 0} → F.FinalFn → O.AOutcome H → Type 0
OnResults f (O.TheVariants.Value v h globals) = AreResults f (values_in v)
OnResults f _ = Unit {0}

abbrev pub stopped_at : {H : Type 0} → P.Stop → O.AOutcome H
stopped_at P.TheVariants.Fails = O.TheVariants.Fails
stopped_at (P.TheVariants.Wide op a b) = O.TheVariants.Wide op a b
stopped_at P.TheVariants.OutOfTurns = O.TheVariants.OutOfTurns
stopped_at P.TheVariants.Deep = O.TheVariants.Deep
stopped_at P.TheVariants.Memory = O.TheVariants.Memory

abbrev pub outcome_of : {H : Type 0} → Result (Option V.Value) P.Stop → A.AState H → O.AOutcome H
outcome_of (Ok v) s = O.TheVariants.Value v s.heap s.globals
outcome_of (Err w) s = stopped_at w
