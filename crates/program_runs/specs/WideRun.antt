-- What programs do where numbers have 128 bits: a run ends at the first operation that is wide, before it fails, stops or gives
-- anything there. Everywhere else it is a run as in `Run`. Expressions are evaluated in the order of the text: an address, the
-- steps of its path and then the value; a guard, and where it holds the test.
use Rattle.std.specs.Prelude.{ℕ, List, [], ◌∷◌, Option, Some, None, ◌⊎◌}
use Rattle.std.proofs.Common.{inl, inr}
use Rattle.correspondence.specs.Outcome.{Limit, Turns, Done, Failed, Stopped, Ends, done, fault, stop, Then, choose, loop}
use Rattle.correspondence.specs.Bound.{Functions, called, below}
use Rattle.c_values.specs.Layout.{Layout}
use Rattle.c_values.specs.Choice.{Choice}
use Rattle.expression_lang.specs.Expression.{Exp}
use Rattle.expression_lang.specs.Evaluation.{Env, State, value, holds}
use Rattle.expression_lang.specs.Wide.{Operation, wide, wide_in, or_else}
use Rattle.expression_lang.specs.View.{picked_at}
use Rattle.expression_lang.specs.Signature.{Invocation, names_of, values_of, bound, no_env}
use Rattle.monad_lang.specs.Program.{Place, Stored, Written, Global, Start, Mon, Ret, Bind, Guard, If, Write, Loop, Call, Pick, FinalFn, FinalUnit, final_fn}
use Rattle.monad_lang.specs.Run.{Answer, Failure, start_names, start_values, written}

-- a run fails, or comes to a wide operation
pub data Trouble : Type 0 where
  Fails : Trouble
  IsWide : Operation → Trouble

abbrev pub WideRuns : Type 1
WideRuns = Functions Invocation Answer Trouble

-- the first wide operation of expressions, in their order
abbrev pub wide_among : Layout → Env → State → List Exp → Option Operation
wide_among l env s [] = None
wide_among l env s (e ∷ es) = or_else (wide l env s e) (wide_among l env s es)

abbrev pub wide_at_starts : Layout → Env → State → List Start → Option Operation
wide_at_starts l env s [] = None
wide_at_starts l env s (x ∷ xs) = or_else (wide l env s x.exp) (wide_at_starts l env s xs)

abbrev pub wide_at_place : Layout → Env → State → Place → Option Operation
wide_at_place l env s (Stored t p path) = or_else (wide l env s p) (wide_in l env s path)
wide_at_place l env s (Written t p path) = or_else (wide l env s p) (wide_in l env s path)
wide_at_place l env s (Global x path) = wide_in l env s path

-- what comes next, unless there is a wide operation
abbrev pub unless : {A : Type 0} → Option Operation → Ends A Trouble → Ends A Trouble
unless None next = next
unless (Some o) next = fault (IsWide o)

-- one more turn where the test holds, after the guard
abbrev pub wide_entered : Layout → Exp → Exp → (Answer → Env) → Answer → Ends (Answer ⊎ Answer) Trouble
wide_entered l guard test env a =
    unless (wide l (env a) a.state guard)
    (choose (holds l (env a) a.state guard) (unless (wide l (env a) a.state test) (choose (holds l (env a) a.state test) (done (inl a)) (done (inr a)))) (fault Fails))

abbrev pub wide_runs : Layout → Choice → Mon → Env → Option ℕ → List WideRuns → State → Ends Answer Trouble
wide_runs l p (Ret es) env depth fs s = unless (wide_among l env s es) (done (record { values = values_of l env s es; state = s }))
wide_runs l p (Bind m xs n) env depth fs s = Then (wide_runs l p m env depth fs s) (λ a. wide_runs l p n (bound xs a.values env) depth fs a.state)
wide_runs l p (Guard e) env depth fs s = unless (wide l env s e) (choose (holds l env s e) (done (record { values = []; state = s })) (fault Fails))
wide_runs l p (If e m n) env depth fs s = unless (wide l env s e) (choose (holds l env s e) (wide_runs l p m env depth fs s) (wide_runs l p n env depth fs s))
wide_runs l p (Write place e) env depth fs s =
    unless (or_else (wide_at_place l env s place) (wide l env s e)) (done (record { values = []; state = written l env s place (value l env s e) }))
wide_runs l p (Loop starts guard test m) env depth fs s =
    unless (wide_at_starts l env s starts)
    (loop (wide_entered l guard test (λ a. bound (start_names starts) a.values env))
    (λ gs a. Then (wide_runs l p m (bound (start_names starts) a.values env) depth gs a.state) (λ b. done (inl b)))
    fs (record { values = start_values l env s starts; state = s }))
wide_runs l p (Call f es) env depth fs s =
    unless (wide_among l env s es) (called fs depth (record { name = f; arguments = values_of l env s es; state = s }))
wide_runs l p (Pick k) env depth fs s = Then (picked_at p k) (λ v. done (record { values = v ∷ []; state = s }))

abbrev pub wide_function_runs : Layout → Choice → Option FinalFn → Option ℕ → List WideRuns → Invocation → Ends Answer Trouble
wide_function_runs l p None depth fs c = stop Turns
wide_function_runs l p (Some f) depth fs c = wide_runs l p f.body (bound (names_of f.params) c.arguments no_env) depth fs c.state

abbrev pub wide_bodies : FinalUnit → Choice → List WideRuns → WideRuns
wide_bodies u p fs depth c = wide_function_runs u.layout p (final_fn u.functions c.name) depth fs c

abbrev pub wide_functions_below : FinalUnit → Choice → ℕ → List WideRuns
wide_functions_below u p n = below (wide_bodies u p) n

-- what a function's program does at a bound of n turns, in 128 bits
abbrev pub wide_program_runs : FinalUnit → Choice → ℕ → WideRuns
wide_program_runs u p n = wide_bodies u p (wide_functions_below u p n)

-- each end that isn't a wide operation is an end of the other run, where numbers have no limit
pub record Narrows {A : Type 0} (p : Ends A Trouble) (q : Ends A Failure) : Type 0 where
  pub done : (a : A) → p (Done a) → q (Done a)
  pub fails : p (Failed Fails) → q (Failed tt)
  pub stops : (w : Limit) → p (Stopped w) → q (Stopped w)
