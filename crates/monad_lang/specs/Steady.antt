-- Programs in range, and programs that do the same on bytes and on the typed heaps that view them (the heap lifting of
-- AutoCorres, in both directions).
use Rattle.std.specs.Prelude.{◌≡◌, ℕ, true, List, Option, Some, None}
use Rattle.correspondence.specs.Corresponds.{Corresponds}
use Rattle.c_values.specs.Name.{Name}
use Rattle.c_values.specs.Value.{Value, word_in}
use Rattle.c_values.specs.Layout.{Layout, shape_of}
use Rattle.c_values.specs.Path.{in_range}
use Rattle.c_values.specs.Choice.{Choice}
use Rattle.c_memory.specs.Memory.{Memory}
use Rattle.c_memory.specs.TypedHeap.{view}
use Rattle.c_memory.specs.Heap.{OnBytes, OnTypes, is_tagged}
use Rattle.expression_lang.specs.Evaluation.{Env, State, value, steps}
use Rattle.expression_lang.specs.States.{state_with}
use Rattle.expression_lang.specs.Signature.{kinds_of, values_of}
use Rattle.expression_lang.specs.View.{AreOfKinds}
use Rattle.monad_lang.specs.Program.{Written, Mon, Write, Call, FinalFn, FinalUnit, final_fn}
use Rattle.monad_lang.specs.Run.{Answer, Failure, Runs, runs}
use Rattle.monad_lang.specs.Reach.{AtEach}

-- the arguments are values of the called function's kinds
abbrev pub TakesThem : Option FinalFn → List Value → Type 0
TakesThem None vs = ⊥
TakesThem (Some f) vs = AreOfKinds (kinds_of f.params) vs

abbrev pub CallInRange : FinalUnit → Mon → Env → State → Type 0
CallInRange u (Call f es) env s = TakesThem (final_fn u.functions f) (values_of u.layout env s es)
CallInRange u _ env s = Unit {0}

-- each call of the program itself that a run reaches has arguments that are values of the called function's kinds
abbrev pub IsInRange : FinalUnit → Choice → Mon → Env → Option ℕ → List Runs → State → Type 0
IsInRange u p m env depth fs s = AtEach u.layout p (CallInRange u) m env depth fs s

abbrev pub WriteCovered : Layout → Mon → Env → State → Type 0
WriteCovered l (Write (Written t a path) e) env s =
    (is_tagged l s.heap t (word_in (value l env s a)).bits ≡ true) × (in_range (shape_of l t) (steps l env s path) ≡ true)
WriteCovered l _ env s = Unit {0}

-- an answer on bytes, and the answer on the typed heaps that view them
pub record Viewed (l : Layout) (a b : Answer) : Type 0 where
  pub memory : Memory
  pub values : a.values ≡ b.values
  pub bytes : a.state.heap ≡ OnBytes memory
  pub types : b.state.heap ≡ OnTypes (view l memory)
  pub globals : a.state.globals ≡ b.state.globals

abbrev pub Alike : Failure → Failure → Type 0
Alike f g = Unit {0}

-- Each write of the program itself that a run reaches has a covered root and indices in range, and from a well-tagged memory
-- and from its view the program fails alike, gives the same values with memories whose views are the typed heaps, and stops alike.
pub record IsSteady (l : Layout) (p : Choice) (m : Mon) (env : Env) (depth : Option ℕ) (fs : List Runs) (memory : Memory) (globals : Name → Value) : Type 0 where
  pub covered_on_bytes : AtEach l p (WriteCovered l) m env depth fs (state_with (OnBytes memory) globals)
  pub covered_on_types : AtEach l p (WriteCovered l) m env depth fs (state_with (OnTypes (view l memory)) globals)
  pub alike : Corresponds (Viewed l) Alike (runs l p m env depth fs (state_with (OnBytes memory) globals)) (runs l p m env depth fs (state_with (OnTypes (view l memory)) globals))
