-- What an accepted tree gives of two programs alone.
use Rattle.std.specs.Prelude.{◌≡◌, ℕ, true, Option, List}
use Rattle.correspondence.specs.Outcome.{Ends}
use Rattle.correspondence.specs.Corresponds.{Corresponds, Paired}
use Rattle.correspondence.specs.Related.{Same, BothFail}
use Rattle.c_values.specs.Name.{Name}
use Rattle.c_values.specs.Value.{Value}
use Rattle.c_values.specs.Choice.{Choice}
use Rattle.c_values.specs.Layout.{Layout}
use Rattle.c_memory.specs.Memory.{Memory}
use Rattle.c_memory.specs.TypedHeap.{view}
use Rattle.c_memory.specs.Footprint.{KeepsMemory}
use Rattle.c_memory.specs.Heap.{OnBytes, OnTypes}
use Rattle.expression_lang.specs.Evaluation.{Env, State}
use Rattle.expression_lang.specs.Sort.{Level, Scalar, sort_of_kind}
use Rattle.expression_lang.specs.States.{IsEnvironment, IsState, state_with}
use Rattle.ac_expr.specs.Fact.{Fact, AllSay}
use Rattle.monad_lang.specs.Program.{Mon, FinalUnit}
use Rattle.monad_lang.specs.Run.{Answer, Failure, runs, functions_below}
use Rattle.monad_lang.specs.Steady.{IsSteady}
use Rattle.program_facts.specs.Lasting.{setting_in}
use Rattle.rule_heap.specs.Kept.{HeapsKept}

-- an answer on bytes, which are those of the memory before outside of all footprints, and the same answer on their view
pub record AnswersViewed (l : Layout) (before : Memory) (a b : Answer) : Type 0 where
  pub after : Memory
  pub bytes : a.state.heap ≡ OnBytes after
  pub types : b.state.heap ≡ OnTypes (view l after)
  pub values : b.values ≡ a.values
  pub globals : b.state.globals ≡ a.state.globals
  pub keeps : KeepsMemory l true before after

-- where a program of the unit runs: over functions of both units that keep what the phase keeps, at all smaller bounds;
-- and in an environment of the sorts of the names in scope
pub record Place (u : FinalUnit) (levels : Name → Level) (names : Name → Option Scalar) : Type 0 where
  pub target : FinalUnit
  pub choice : Choice
  pub turns : ℕ
  pub below : Paired (HeapsKept u levels) (functions_below u choice turns) (functions_below target choice turns)
  pub depth : Option ℕ
  pub environment : Env
  pub sorted : IsEnvironment (setting_in sort_of_kind u names).scope environment

-- what the left side does there from a state, and what the right side does
abbrev pub left_runs : {u : FinalUnit} {levels : Name → Level} {names : Name → Option Scalar} → Place u levels names →
    Mon → State → Ends Answer Failure
left_runs {u} b m s = runs u.layout b.choice m b.environment b.depth (functions_below u b.choice b.turns) s

abbrev pub right_runs : {u : FinalUnit} {levels : Name → Level} {names : Name → Option Scalar} → Place u levels names →
    Mon → State → Ends Answer Failure
right_runs {u} b m s = runs u.layout b.choice m b.environment b.depth (functions_below b.target b.choice b.turns) s

-- a well-tagged memory and globals of their types
abbrev pub CanBe : FinalUnit → Memory → (Name → Value) → Type 0
CanBe u memory globals = IsState u.layout u.globals (state_with (OnBytes memory) globals)

-- The right side stands for the left side where the facts hold: from the view of the bytes; from one state, bytes or
-- typed heaps; and it is steady.
pub record StandsFor (u : FinalUnit) (levels : Name → Level) (fs : List Fact) (names : Name → Option Scalar)
    (left right : Mon) : Type 0 where
  pub on_types : (b : Place u levels names) (memory : Memory) (globals : Name → Value) → CanBe u memory globals →
      AllSay u.layout b.environment (state_with (OnTypes (view u.layout memory)) globals) fs →
      Corresponds (AnswersViewed u.layout memory) BothFail (left_runs b left (state_with (OnBytes memory) globals))
      (right_runs b right (state_with (OnTypes (view u.layout memory)) globals))
  pub on_one_heap : (b : Place u levels names) (s : State) → IsState u.layout u.globals s →
      AllSay u.layout b.environment s fs → Corresponds Same BothFail (left_runs b left s) (right_runs b right s)
  pub steady : (b : Place u levels names) (memory : Memory) (globals : Name → Value) → CanBe u memory globals →
      AllSay u.layout b.environment (state_with (OnTypes (view u.layout memory)) globals) fs →
      AllSay u.layout b.environment (state_with (OnBytes memory) globals) fs →
      IsSteady u.layout b.choice right b.environment b.depth (functions_below b.target b.choice b.turns) memory globals
