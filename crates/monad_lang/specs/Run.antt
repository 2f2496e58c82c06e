-- What programs do: which ends a run may have, at a bound and a choice, from an environment and a state. Results are a set,
-- as in the nondeterministic state monad of the AutoCorres thesis, beside failure and the stop at a bound. By recursion on the
-- program; the code's interpreter makes one run.
use Rattle.std.specs.Prelude.{ℕ, List, [], ◌∷◌, Option, Some, None, ◌⊎◌}
use Rattle.std.proofs.Common.{inl, inr}
use Rattle.correspondence.specs.Outcome.{Turns, Ends, done, fault, stop, Then, choose, loop}
use Rattle.correspondence.specs.Bound.{Functions, called, below}
use Rattle.c_values.specs.Name.{Name, with_name}
use Rattle.c_values.specs.Value.{Value, word_in}
use Rattle.c_values.specs.Layout.{Layout}
use Rattle.c_values.specs.Path.{upd}
use Rattle.c_values.specs.Choice.{Choice}
use Rattle.c_memory.specs.Heap.{write_heap}
use Rattle.expression_lang.specs.Expression.{Exp}
use Rattle.expression_lang.specs.Evaluation.{Env, State, value, steps, holds}
use Rattle.expression_lang.specs.View.{picked_at}
use Rattle.expression_lang.specs.Signature.{Invocation, names_of, values_of, bound, no_env}
use Rattle.monad_lang.specs.Program.{Place, Stored, Written, Global, Start, Mon, Ret, Bind, Guard, If, Write, Loop, Call, Pick, FinalFn, FinalUnit, final_fn}

-- what a program gives: its values and the state after it
pub record Answer : Type 0 where
  pub values : List Value
  pub state : State

-- a program fails or it doesn't
abbrev pub Failure : Type 0
Failure = Unit {0}

abbrev pub Runs : Type 1
Runs = Functions Invocation Answer Failure

abbrev pub start_names : List Start → List Name
start_names [] = []
start_names (x ∷ xs) = x.name ∷ start_names xs

abbrev pub start_values : Layout → Env → State → List Start → List Value
start_values l env s [] = []
start_values l env s (x ∷ xs) = value l env s x.exp ∷ start_values l env s xs

-- the state after a value is written at a place
abbrev pub written : Layout → Env → State → Place → Value → State
written l env s (Stored t p path) v = record { heap = write_heap l s.heap t (word_in (value l env s p)).bits (steps l env s path) v; globals = s.globals }
written l env s (Written t p path) v = record { heap = write_heap l s.heap t (word_in (value l env s p)).bits (steps l env s path) v; globals = s.globals }
written l env s (Global x path) v = record { heap = s.heap; globals = with_name x (upd (s.globals x) (steps l env s path) v) s.globals }

-- one more turn where the test holds, after the guard
abbrev pub entered : Layout → Exp → Exp → (Answer → Env) → Answer → Ends (Answer ⊎ Answer) Failure
entered l guard test env a =
    choose (holds l (env a) a.state guard) (choose (holds l (env a) a.state test) (done (inl a)) (done (inr a))) (fault tt)

-- the ends of a program's runs
abbrev pub runs : Layout → Choice → Mon → Env → Option ℕ → List Runs → State → Ends Answer Failure
runs l p (Ret es) env depth fs s = done (record { values = values_of l env s es; state = s })
runs l p (Bind m xs n) env depth fs s = Then (runs l p m env depth fs s) (λ a. runs l p n (bound xs a.values env) depth fs a.state)
runs l p (Guard e) env depth fs s = choose (holds l env s e) (done (record { values = []; state = s })) (fault tt)
runs l p (If e m n) env depth fs s = choose (holds l env s e) (runs l p m env depth fs s) (runs l p n env depth fs s)
runs l p (Write place e) env depth fs s = done (record { values = []; state = written l env s place (value l env s e) })
runs l p (Loop starts guard test m) env depth fs s =
    loop (entered l guard test (λ a. bound (start_names starts) a.values env))
    (λ gs a. Then (runs l p m (bound (start_names starts) a.values env) depth gs a.state) (λ b. done (inl b)))
    fs (record { values = start_values l env s starts; state = s })
runs l p (Call f es) env depth fs s = called fs depth (record { name = f; arguments = values_of l env s es; state = s })
runs l p (Pick k) env depth fs s = Then (picked_at p k) (λ v. done (record { values = v ∷ []; state = s }))

-- A function's body runs with its parameters alone. What isn't in the unit has no body: no well-formed unit calls it.
abbrev pub function_runs : Layout → Choice → Option FinalFn → Option ℕ → List Runs → Invocation → Ends Answer Failure
function_runs l p None depth fs c = stop Turns
function_runs l p (Some f) depth fs c = runs l p f.body (bound (names_of f.params) c.arguments no_env) depth fs c.state

abbrev pub bodies : FinalUnit → Choice → List Runs → Runs
bodies u p fs depth c = function_runs u.layout p (final_fn u.functions c.name) depth fs c

-- what the functions of a unit do at each bound below n
abbrev pub functions_below : FinalUnit → Choice → ℕ → List Runs
functions_below u p n = below (bodies u p) n

-- what a function's program does at a bound of n turns
abbrev pub program_runs : FinalUnit → Choice → ℕ → Runs
program_runs u p n = bodies u p (functions_below u p n)
