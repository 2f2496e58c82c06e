-- Hoare triples (Hoare 1969, with logical variables), of an abstract program and of the C that it stands for.
use Rattle.std.specs.Prelude.{◌≡◌, ℕ, Bool, true, false, not, ◌&&◌, List, [], ◌∷◌, ◌++◌, map, Option, Some, None, codes, if◌then◌else◌}
use Rattle.correspondence.specs.Outcome.{Done, Failed}
use Rattle.c_values.specs.Name.{Name, is_among, are_distinct}
use Rattle.c_values.specs.Value.{Value}
use Rattle.c_values.specs.Choice.{Choice}
use Rattle.c_values.specs.Layout.{Layout, global_type}
use Rattle.c_memory.specs.Memory.{Memory}
use Rattle.c_memory.specs.Heap.{Heap, OnBytes, OnTypes, IsHeap}
use Rattle.expression_lang.specs.Expression.{Exp}
use Rattle.expression_lang.specs.Sort.{Level, Kind, Scalar, Scope, sort_of, is_truth, sort_of_kind, is_lifted}
use Rattle.expression_lang.specs.Form.{has, is_load, is_read}
use Rattle.expression_lang.specs.Sorted.{scope_with}
use Rattle.expression_lang.specs.Evaluation.{State, holds}
use Rattle.expression_lang.specs.View.{AreOfKinds, views_at}
use Rattle.expression_lang.specs.Signature.{bound, no_env, names_of, kinds_of, result_kind}
use Rattle.expression_lang.specs.Machine.{Returned}
use Rattle.monad_lang.specs.Program.{FinalUnit, FinalFn, final_fn}
use Rattle.monad_lang.specs.Run.{Answer, program_runs}
use Rattle.c_lang.specs.Typed.{TypedUnit, TypedFn, typed_fn}
use Rattle.c_meaning.specs.CRun.{plain}
use Rattle.c_meaning.specs.Kinds.{variables}
use Rattle.exactness.specs.Exact.{Begin, IsBegin, heap_for, c_ends, seen, IsUndefined}
use Rattle.expression_lang.specs.States.{IsOfSort, AreGlobals, state_with}

-- a variable that stands for the same value before and after
pub record Logical : Type 0 where
  pub name : Name
  pub sort : Scalar

pub record Assertions : Type 0 where
  pub function : Name
  pub logicals : List Logical
  pub before : Exp
  pub after : Exp

abbrev pub AreLogicals : List Logical → List Value → Type 0
AreLogicals [] [] = Unit {0}
AreLogicals (x ∷ xs) (v ∷ vs) = IsOfSort x.sort v × AreLogicals xs vs
AreLogicals [] (v ∷ vs) = ⊥
AreLogicals (x ∷ xs) [] = ⊥

abbrev pub logical_names : List Logical → List Name
logical_names [] = []
logical_names (x ∷ xs) = x.name ∷ logical_names xs

-- the name that a result has in an assertion
abbrev pub result_name : Name
result_name = codes "result"

-- the globals of a unit, and no name
abbrev pub global_scope : FinalUnit → Scope
global_scope a = record { layout = a.layout; names = λ x. None; globals = global_type a.globals }

-- the precondition of parameters, logical values and a state
abbrev pub MeetsBefore : Layout → Assertions → List Name → List Value → List Value → State → Type 0
MeetsBefore l t params arguments logicals s = holds l (bound params arguments (bound (logical_names t.logicals) logicals no_env)) s t.before ≡ true

-- the postcondition of a result, logical values and a state
abbrev pub MeetsAfter : Layout → Assertions → List Value → List Value → State → Type 0
MeetsAfter l t results logicals s = holds l (bound (result_name ∷ []) results (bound (logical_names t.logicals) logicals no_env)) s t.after ≡ true

abbrev pub logical_sorts : List Logical → List Scalar
logical_sorts [] = []
logical_sorts (x ∷ xs) = x.sort ∷ logical_sorts xs

-- a truth value that has no load for a function on typed heaps, and no read for one on bytes
abbrev pub is_assertion : Bool → Scope → Exp → Bool
is_assertion lifted g e = is_truth (sort_of g e) && not (has (if lifted then is_load else is_read) e)

-- the name of the result, of a function that has one
abbrev pub result_names : List Kind → List Name
result_names [] = []
result_names (k ∷ ks) = result_name ∷ []

-- The logical variables have distinct names, none of them `result` or a parameter's; the precondition speaks of parameters and
-- logical variables, the postcondition of the result, where there is one, and logical variables. A parameter may be named
-- `result`: no postcondition speaks of it.
pub record AreAssertions (a : FinalUnit) (f : FinalFn) (t : Assertions) : Type 0 where
  pub names : are_distinct (names_of f.params ++ logical_names t.logicals) ≡ true
  pub no_result : is_among result_name (logical_names t.logicals) ≡ false
  pub before_sorted : is_assertion (is_lifted f.level)
      (scope_with (names_of f.params ++ logical_names t.logicals) (map sort_of_kind (kinds_of f.params) ++ logical_sorts t.logicals) (global_scope a)) t.before ≡ true
  pub after_sorted : is_assertion (is_lifted f.level)
      (scope_with (result_names f.results ++ logical_names t.logicals) (map sort_of_kind f.results ++ logical_sorts t.logicals) (global_scope a)) t.after ≡ true

-- the heap that a function at a level runs on
abbrev pub IsHeapFor : Layout → Bool → Heap → Type 0
IsHeapFor l true (OnTypes cells) = IsHeap l (OnTypes cells)
IsHeapFor l false (OnBytes m) = IsHeap l (OnBytes m)
IsHeapFor l _ _ = ⊥

-- at every bound and choice, from each state, logical values and arguments that meet the precondition, the program doesn't
-- fail and each result meets the postcondition
pub record HoldsOfProgram (a : FinalUnit) (t : Assertions) : Type 0 where
  pub holds_at : (f : FinalFn) → final_fn a.functions t.function ≡ Some f → (turns : ℕ) (depth : Option ℕ) (p : Choice) (s : State) (logicals arguments : List Value) →
      IsHeapFor a.layout (is_lifted f.level) s.heap → AreGlobals a.layout a.globals s.globals → AreLogicals t.logicals logicals → AreOfKinds (kinds_of f.params) arguments →
      MeetsBefore a.layout t (names_of f.params) arguments logicals s →
      (program_runs a p turns depth (record { name = f.name; arguments = arguments; state = s }) (Failed tt) → ⊥)
      × ((r : Answer) → program_runs a p turns depth (record { name = f.name; arguments = arguments; state = s }) (Done r) → MeetsAfter a.layout t r.values logicals r.state)

-- from each memory, globals and arguments whose views meet the precondition, no run of the C is undefined, and the view of
-- each return meets the postcondition
pub record HoldsOfC (u : TypedUnit) (levels : Name → Level) (t : Assertions) : Type 0 where
  pub holds_at : (f : TypedFn) → typed_fn u.functions t.function ≡ Some f → (b : Begin) (logicals : List Value) → IsBegin u f b → AreLogicals t.logicals logicals →
      MeetsBefore u.layout t (names_of (variables u.layout.target (levels f.name) f.params)) (views_at (kinds_of (variables u.layout.target (levels f.name) f.params)) b.arguments) logicals (state_with (heap_for u.layout (is_lifted (levels f.name)) b.memory) b.globals) →
      (IsUndefined (c_ends u plain f b) → ⊥)
      × ((r : Returned) (m : Memory) → c_ends u plain f b (Done r) → r.state.heap ≡ OnBytes m →
      MeetsAfter u.layout t (seen (result_kind u.layout.target (levels f.name) f.result) r.result) logicals (state_with (heap_for u.layout (is_lifted (levels f.name)) m) r.state.globals))
