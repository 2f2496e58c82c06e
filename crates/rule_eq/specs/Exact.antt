-- What an accepted tree gives of two programs alone.
use Rattle.std.specs.Prelude.{◌≡◌, ℕ, List, map, Option}
use Rattle.correspondence.specs.Corresponds.{Corresponds}
use Rattle.correspondence.specs.Related.{Same, BothFail}
use Rattle.c_values.specs.Name.{Name}
use Rattle.c_values.specs.Value.{Value}
use Rattle.c_values.specs.Choice.{Choice}
use Rattle.c_memory.specs.Memory.{Memory}
use Rattle.c_memory.specs.TypedHeap.{view}
use Rattle.c_memory.specs.Heap.{OnBytes, OnTypes}
use Rattle.expression_lang.specs.Evaluation.{Env, State}
use Rattle.expression_lang.specs.Sort.{Scalar, sort_of_kind}
use Rattle.expression_lang.specs.States.{IsEnvironment, IsState, state_with}
use Rattle.ac_expr.specs.Fact.{Fact, AllSay}
use Rattle.monad_lang.specs.Program.{Mon, FinalUnit}
use Rattle.monad_lang.specs.Run.{runs, functions_below}
use Rattle.monad_lang.specs.Sorted.{signature_of}
use Rattle.monad_lang.specs.Steady.{IsInRange, IsSteady}
use Rattle.program_facts.specs.Lasting.{setting_in}

-- two units that differ in the bodies of their functions alone
pub record AreAlike (u v : FinalUnit) : Type 0 where
  pub layout : v.layout ≡ u.layout
  pub globals : v.globals ≡ u.globals
  pub functions : map signature_of v.functions ≡ map signature_of u.functions

-- where a program of the unit begins: in an environment of the sorts of the names in scope, in a state that can be, where the
-- facts hold
pub record Begins (u : FinalUnit) (fs : List Fact) (names : Name → Option Scalar) (env : Env) (s : State) : Type 0 where
  pub environment : IsEnvironment (setting_in sort_of_kind u names).scope env
  pub state : IsState u.layout u.globals s
  pub facts : AllSay u.layout env s fs

-- The right side does what the left side does, over the functions of two units that do so at all smaller bounds: it has the
-- same answers, fails alike and stops alike. Where the left side is in range, so is the right side; and where it is steady.
pub record DoesSame (u v : FinalUnit) (p : Choice) (n : ℕ) (fs : List Fact) (names : Name → Option Scalar)
    (left right : Mon) (depth : Option ℕ) (env : Env) : Type 0 where
  pub same : (s : State) → Begins u fs names env s →
      Corresponds Same BothFail (runs u.layout p left env depth (functions_below u p n) s)
      (runs u.layout p right env depth (functions_below v p n) s)
  pub in_range : (s : State) → Begins u fs names env s →
      IsInRange u p left env depth (functions_below u p n) s → IsInRange v p right env depth (functions_below v p n) s
  pub steady : (memory : Memory) (globals : Name → Value) → Begins u fs names env (state_with (OnBytes memory) globals) →
      Begins u fs names env (state_with (OnTypes (view u.layout memory)) globals) →
      IsSteady u.layout p left env depth (functions_below u p n) memory globals →
      IsSteady u.layout p right env depth (functions_below v p n) memory globals
