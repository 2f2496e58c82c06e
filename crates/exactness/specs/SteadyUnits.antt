-- What proofs about the programs of a unit rest on beside what programs do: lifted functions call
-- lifted ones alone; and wherever a function begins with arguments that are values of its
-- parameters' kinds, its program is in range, and steady where the function is lifted.
use Rattle.std.specs.Prelude.{◌≡◌, ℕ, Bool, true, false, List, Option, Some, None}
use Rattle.c_values.specs.Name.{Name}
use Rattle.c_values.specs.Value.{Value}
use Rattle.c_values.specs.Choice.{Choice}
use Rattle.c_memory.specs.Memory.{Memory}
use Rattle.c_memory.specs.Heap.{OnBytes}
use Rattle.expression_lang.specs.Evaluation.{Env, State}
use Rattle.expression_lang.specs.Sort.{is_lifted}
use Rattle.expression_lang.specs.States.{IsState, state_with}
use Rattle.expression_lang.specs.Signature.{names_of, kinds_of, bound, no_env}
use Rattle.expression_lang.specs.View.{AreOfKinds}
use Rattle.monad_lang.specs.Program.{FinalFn, FinalUnit, final_fn}
use Rattle.monad_lang.specs.Run.{functions_below}
use Rattle.monad_lang.specs.Steady.{IsInRange, IsSteady}
use Rattle.monad_lang.specs.Calls.{calls_only}

-- there is a function, and it is on typed heaps
abbrev pub is_on_typed_heaps : Option FinalFn → Bool
is_on_typed_heaps None = false
is_on_typed_heaps (Some f) = is_lifted f.level

-- a function begins with its parameters alone
abbrev pub begins : FinalFn → List Value → Env
begins f arguments = bound (names_of f.params) arguments no_env

-- at every choice, bound and limit of nested calls
pub record IsFunctionSteady (u : FinalUnit) (f : FinalFn) : Type 0 where
  -- a lifted function calls lifted ones alone
  pub calls : is_lifted f.level ≡ true →
      calls_only (λ x. is_on_typed_heaps (final_fn u.functions x)) f.body ≡ true
  -- in a state that can be, on either heap, each call that the program reaches is in range
  pub in_range : (p : Choice) (n : ℕ) (depth : Option ℕ) (arguments : List Value) (s : State) →
      AreOfKinds (kinds_of f.params) arguments → IsState u.layout u.globals s →
      IsInRange u p f.body (begins f arguments) depth (functions_below u p n) s
  -- a lifted function's program is steady, with a well-tagged memory and globals of their types
  pub steady : is_lifted f.level ≡ true → (p : Choice) (n : ℕ) (depth : Option ℕ)
      (arguments : List Value) (memory : Memory) (globals : Name → Value) →
      AreOfKinds (kinds_of f.params) arguments →
      IsState u.layout u.globals (state_with (OnBytes memory) globals) →
      IsSteady u.layout p f.body (begins f arguments) depth (functions_below u p n) memory globals

-- each function of the unit
abbrev pub IsUnitSteady : FinalUnit → Type 0
IsUnitSteady u =
    (x : Name) (f : FinalFn) → final_fn u.functions x ≡ Some f → IsFunctionSteady u f
