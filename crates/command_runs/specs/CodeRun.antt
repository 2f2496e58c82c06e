-- What the code that runs commands works on, and what its answers stand for.
use Rattle.std.specs.Prelude.{◌≡◌, ℕ, Bool, true, false, ◌⊎◌, List, map, Option, Some, None, Result, Ok, Err, pos, string_bytes, slice_get}
use Rattle.std.specs.Option.{option_map, IsSomeAnd}
use Rattle.std.proofs.Common.{inl, inr}
use Rattle.correspondence.specs.Outcome.{Turns, Depth, Done, Failed, Stopped, Ends}
use Rattle.c_values.specs.Name.{are_distinct}
use Rattle.c_values.specs.Word.{word}
use Rattle.c_values.specs.Layout.{GlobalVar, Shape}
use Rattle.c_values.specs.Value.{Value, Bits, Truth}
use Rattle.c_values.specs.Choice.{Fill}
use Rattle.c_values.specs.declared.values.Value as V
use Rattle.c_values.specs.CodeValue.{value_of, global_of}
use Rattle.c_memory.specs.Heap.{IsHeap}
use Rattle.c_memory.specs.CodeHeap.{byte_content}
use Rattle.expression_lang.specs.declared.signatures.Signature as G
use Rattle.expression_lang.specs.Expression.{Exp, Path}
use Rattle.expression_lang.specs.Sort.{Scalar, Sort, Scope, Kind, WordKind, NatKind, IntKind, BoolKind, word_sort_of, sort_of, shape_along, are_kinds}
use Rattle.expression_lang.specs.Evaluation.{State}
use Rattle.expression_lang.specs.States.{IsOfSort}
use Rattle.expression_lang.specs.GuardKind.{GuardKind}
use Rattle.expression_lang.specs.Machine.{Machine, machine_with, Returned}
use Rattle.expression_lang.specs.Signature.{Binder, Invocation, names_of, kinds_of, signature}
use Rattle.expression_lang.specs.Sorted.{scalars_of}
use Rattle.expression_lang.specs.CodeSignature.{binder_of, signature_of}
use Rattle.expression_lang.specs.CodeState.{Bindings, env_of, state_of, AreOfTypes}
use Rattle.simpl_lang.specs.declared.units.SimplFn as F
use Rattle.simpl_lang.specs.declared.units.SimplUnit as U
use Rattle.simpl_lang.specs.Command.{Condition, Simpl, simpl_fn}
use Rattle.simpl_lang.specs.Exec as E
use Rattle.simpl_lang.specs.Exec.{execs, functions_below}
use Rattle.simpl_lang.specs.Sorted.{IsWellFormed, is_sorted, are_conditions, scope_among}
use Rattle.simpl_lang.specs.CodeCommand.{guard_kind_of, simpl_fn_of, simpl_unit_of}
use Rattle.simpl_lang.specs.CodeForms.{signatures_in}
use Rattle.command_runs.specs.declared.outcome.CState as C
use Rattle.command_runs.specs.declared.outcome.COutcome as O
use Rattle.command_runs.specs.declared.ends.Flow as W
use Rattle.command_runs.specs.declared.ends.Stop as P
use Rattle.command_runs.specs.declared.frame.Frame as R
use Rattle.narrow.specs.Narrow.{IsNarrow, IsNarrowAlong, AreNarrow, AreConditionsNarrow, IsCommandNarrow, IsUnitNarrow}
use Rattle.command_runs.specs.Locals.{Table, AreOfSorts, AreLocals}

abbrev pub table_of : Bindings → Table
table_of = map (λ b. (string_bytes b.0, value_of b.1))

abbrev pub state_in : U.SimplUnit → C.CState → State
state_in u s = state_of (byte_content s.heap) u.globals.items s.globals.items

abbrev pub machine_in : R.Frame → Bindings → C.CState → Machine
machine_in f bs s = machine_with (env_of bs) (state_in f.unit.now s)

-- what a command does in a frame, at a bound
abbrev pub ends_in : R.Frame → Simpl → ℕ → Machine → Ends E.Flow GuardKind
ends_in f c turns m =
    execs f.unit.now.layout (Fill f.fill) (map binder_of f.locals.now) c (Some f.depth) (functions_below (simpl_unit_of f.unit.now) (Fill f.fill) turns) m

abbrev pub flow_of : W.Flow → Machine → E.Flow
flow_of W.TheVariants.Normal m = E.Normal m
flow_of W.TheVariants.Abrupt m = E.Abrupt m

-- a loop makes a turn, or has ended
abbrev pub turn_or_end : Bool → Machine → Machine ⊎ E.Flow
turn_or_end true m = inl m
turn_or_end false m = inr (E.Normal m)

-- a run stops for this reason; for want of memory it comes nowhere
abbrev pub HasStopped : {A : Type 0} → Ends A GuardKind → P.Stop → Type 0
HasStopped ends (P.TheVariants.Guard k) = ends (Failed (guard_kind_of k))
HasStopped ends P.TheVariants.OutOfTurns = ends (Stopped Turns)
HasStopped ends P.TheVariants.Deep = ends (Stopped Depth)
HasStopped ends P.TheVariants.Memory = Unit {0}

-- where a run of a command came
abbrev pub HasRun : Ends E.Flow GuardKind → Result W.Flow P.Stop → Machine → Type 0
HasRun ends (Ok w) m = ends (Done (flow_of w m))
HasRun ends (Err e) m = HasStopped ends e

-- the same of a function
abbrev pub HasReturned : U.SimplUnit → Ends Returned GuardKind → Result (Option V.Value) P.Stop → C.CState → Type 0
HasReturned u ends (Ok v) s = ends (Done (record { result = option_map value_of v; state = state_in u s }))
HasReturned u ends (Err e) s = HasStopped ends e

-- an outcome is the end of the run; for want of memory there is none
abbrev pub IsEnd : U.SimplUnit → Ends Returned GuardKind → O.COutcome → Type 0
IsEnd u ends (O.TheVariants.Value v s) = ends (Done (record { result = option_map value_of v; state = state_in u s }))
IsEnd u ends (O.TheVariants.Guard k) = ends (Failed (guard_kind_of k))
IsEnd u ends O.TheVariants.OutOfTurns = ends (Stopped Turns)
IsEnd u ends O.TheVariants.Deep = ends (Stopped Depth)
IsEnd u ends O.TheVariants.Memory = Unit {0}

abbrev pub outcome_of : Result (Option V.Value) P.Stop → C.CState → O.COutcome
outcome_of (Ok v) s = O.TheVariants.Value v s
outcome_of (Err (P.TheVariants.Guard k)) s = O.TheVariants.Guard k
outcome_of (Err P.TheVariants.OutOfTurns) s = O.TheVariants.OutOfTurns
outcome_of (Err P.TheVariants.Deep) s = O.TheVariants.Deep
outcome_of (Err P.TheVariants.Memory) s = O.TheVariants.Memory

-- memory is well-tagged, and each global has a value of its type
pub record IsStateOf (u : U.SimplUnit) (s : C.CState) : Type 0 where
  pub heap : IsHeap u.layout (byte_content s.heap)
  pub globals : AreOfTypes u.layout u.globals.items s.globals.items

-- where an outcome has a state, functions of the unit can run from there
abbrev pub OnLasting : U.SimplUnit → O.COutcome → Type 0
OnLasting u (O.TheVariants.Value v s) = IsStateOf u s
OnLasting u _ = Unit {0}

-- a unit whose runs meet no operation that is wide
pub record CanRun (u : U.SimplUnit) : Type 0 where
  pub formed : IsWellFormed (simpl_unit_of u)
  pub narrow : IsUnitNarrow (simpl_unit_of u)

abbrev pub locals_of : R.Frame → List Binder
locals_of f = map binder_of f.locals.now

abbrev pub scope_for : R.Frame → Scope
scope_for f = scope_among (simpl_unit_of f.unit.now) (locals_of f)

abbrev pub globals_for : R.Frame → List GlobalVar
globals_for f = map global_of f.unit.now.globals.items

-- the unit can be run, and the locals are distinct and of kinds that are
pub record IsFrame (f : R.Frame) : Type 0 where
  pub unit : CanRun f.unit.now
  pub distinct : are_distinct (names_of (locals_of f)) ≡ true
  pub kinds : are_kinds (kinds_of (locals_of f)) ≡ true

-- the locals and the state of a frame
pub record Fits (f : R.Frame) (bs : Bindings) (s : C.CState) : Type 0 where
  pub locals : AreLocals (locals_of f) (table_of bs)
  pub state : IsStateOf f.unit.now s

-- an expression that may be evaluated in a frame, and its sort
pub record HasSortIn (f : R.Frame) (e : Exp) (o : Sort) : Type 0 where
  pub sorted : sort_of (scope_for f) e ≡ Some o
  pub narrow : IsNarrow (scope_for f) (globals_for f) e

-- a path that may be walked
pub record LeadsIn (f : R.Frame) (path : Path) (r q : Shape) : Type 0 where
  pub along : shape_along (scope_for f) path r ≡ Some q
  pub narrow : IsNarrowAlong (scope_for f) (globals_for f) path

-- arguments that may be evaluated
pub record HaveSortsIn (f : R.Frame) (es : List Exp) (cs : List Scalar) : Type 0 where
  pub sorted : scalars_of (scope_for f) es ≡ Some cs
  pub narrow : AreNarrow (scope_for f) (globals_for f) es

-- conditions that may be evaluated
pub record HaveTruthsIn (f : R.Frame) (cs : List Condition) : Type 0 where
  pub sorted : are_conditions (scope_for f) cs ≡ true
  pub narrow : AreConditionsNarrow (scope_for f) (globals_for f) cs

-- a command that may be run
pub record CanRunIn (f : R.Frame) (c : Simpl) : Type 0 where
  pub sorted : is_sorted (scope_for f) (signatures_in f.unit.now) c ≡ true
  pub narrow : IsCommandNarrow (scope_for f) (globals_for f) c

-- a command that asks no turn and no call, and ends normally on this machine
abbrev pub Reaches : R.Frame → Simpl → Machine → Machine → Type 0
Reaches f c m n = (turns : ℕ) → ends_in f c turns m (Done (E.Normal n))

-- what a fill number picks at a kind
abbrev pub picked_value : ℕ → Kind → Value
picked_value k (WordKind n) = Bits (word n (pos k))
picked_value k (NatKind n) = Bits (word n (pos k))
picked_value k (IntKind n) = Bits (word n (pos k))
picked_value k BoolKind = Truth false

-- a result is of the kind's words
abbrev pub IsResult : Option Kind → Option Value → Type 0
IsResult None None = Unit {0}
IsResult (Some k) (Some v) = IsOfSort (word_sort_of k) v
IsResult _ _ = ⊥

-- a call of a function of the unit that may be run
pub record CanBeCalled (u : U.SimplUnit) (f : F.SimplFn) (s : G.Signature) (vs : List Value) : Type 0 where
  pub function : simpl_fn (map simpl_fn_of u.functions.items) (string_bytes f.name) ≡ Some (simpl_fn_of f)
  pub signature : signature (signatures_in u) (string_bytes f.name) ≡ Some (signature_of s)
  pub arguments : AreOfSorts (map word_sort_of (kinds_of (map binder_of s.params.items))) vs

abbrev pub call_of : F.SimplFn → List Value → State → Invocation
call_of f vs s = record { name = string_bytes f.name; arguments = vs; state = s }

-- position f is a function's, and the values are one for each of its parameters, of its kind's words
abbrev pub TakesThem : U.SimplUnit → ℕ → List Value → Type 0
TakesThem u f vs = IsSomeAnd (slice_get u.signatures.items f) (λ s. AreOfSorts (map word_sort_of (kinds_of (map binder_of s.params.items))) vs)
