-- What commands do (Schirmer's big-step semantics), as the set of a run's ends: normal or abrupt with a machine, a fault
-- with its kind, or stopped. It isn't stuck anywhere, since each called function has a body. The code only rewrites
-- commands; it runs them in one interpreter.
use Rattle.std.specs.Prelude.{ℕ, Bool, List, [], ◌∷◌, Option, Some, None, ◌⊎◌, codes}
use Rattle.std.proofs.Common.{inl, inr}
use Rattle.correspondence.specs.Outcome.{Turns, Ends, done, fault, stop, Then, choose, loop}
use Rattle.correspondence.specs.Bound.{Functions, called, below}
use Rattle.c_values.specs.Name.{Name, with_name}
use Rattle.c_values.specs.Value.{Value, nothing, word_in}
use Rattle.c_values.specs.Layout.{Layout}
use Rattle.c_values.specs.Path.{upd}
use Rattle.c_values.specs.Choice.{Choice}
use Rattle.c_memory.specs.Heap.{write_heap}
use Rattle.expression_lang.specs.Expression.{Exp}
use Rattle.expression_lang.specs.GuardKind.{GuardKind}
use Rattle.expression_lang.specs.Machine.{Machine, machine_with, with_local, Returned}
use Rattle.expression_lang.specs.Sort.{Kind}
use Rattle.expression_lang.specs.Evaluation.{Env, value, steps, holds}
use Rattle.expression_lang.specs.View.{picked_word_at, zero_word_at}
use Rattle.expression_lang.specs.Signature.{Binder, Signature, Invocation, names_of, signature, values_of, bound, no_env}
use Rattle.simpl_lang.specs.Command.{Condition, Simpl, Skip, Throw, Set, SetGlobal, Store, Pick, Seq, Cond, Guard, Catch, While, Call, SimplFn, SimplUnit, simpl_fn, kind_of}

-- a command ends normally or by an exception
pub data Flow : Type 0 where
  Normal : Machine → Flow
  Abrupt : Machine → Flow

abbrev pub Runs : Type 1
Runs = Functions Invocation Returned GuardKind

-- the value of an expression on a machine
abbrev pub value_on : Layout → Machine → Exp → Value
value_on l m e = value l m.locals m.state e

abbrev pub holds_on : Layout → Machine → Exp → Bool
holds_on l m e = holds l m.locals m.state e

-- goes on where the first part ended normally
abbrev pub normally : (Machine → Ends Flow GuardKind) → Flow → Ends Flow GuardKind
normally next (Normal m) = next m
normally next (Abrupt m) = done (Abrupt m)

abbrev pub handled : (Machine → Ends Flow GuardKind) → Flow → Ends Flow GuardKind
handled next (Normal m) = done (Normal m)
handled next (Abrupt m) = next m

-- a turn that ended by an exception ends the loop
abbrev pub turned : Flow → Ends (Machine ⊎ Flow) GuardKind
turned (Normal m) = done (inl m)
turned (Abrupt m) = done (inr (Abrupt m))

-- the conditions in order, and then the rest
abbrev pub checked : {A : Type 0} → Layout → List Condition → Machine → Ends A GuardKind → Ends A GuardKind
checked l [] m next = next
checked l (c ∷ cs) m next = choose (holds_on l m c.exp) (checked l cs m next) (fault c.kind)

-- a while's conditions, then its test
abbrev pub entered : Layout → List Condition → Exp → Machine → Ends (Machine ⊎ Flow) GuardKind
entered l cs test m = checked l cs m (choose (holds_on l m test) (done (inl m)) (done (inr (Normal m))))

abbrev pub result_into : Option Name → Returned → Env → Machine
result_into (Some x) r locals = machine_with (with_name x (given r.result) locals) r.state
  where
    given : Option Value → Value
    given (Some v) = v
    given None = nothing
result_into None r locals = machine_with locals r.state

-- the local's kind says which words it may take
abbrev pub picked_local : Choice → Option Kind → Ends Value GuardKind
picked_local p None = done nothing
picked_local p (Some k) = picked_word_at p k

abbrev pub execs : Layout → Choice → List Binder → Simpl → Option ℕ → List Runs → Machine → Ends Flow GuardKind
execs l p locals Skip depth fs m = done (Normal m)
execs l p locals Throw depth fs m = done (Abrupt m)
execs l p locals (Set x e) depth fs m = done (Normal (with_local x (value_on l m e) m))
execs l p locals (SetGlobal x path e) depth fs m =
    done (Normal (machine_with m.locals (record { heap = m.state.heap; globals = with_name x (upd (m.state.globals x) (steps l m.locals m.state path) (value_on l m e)) m.state.globals })))
execs l p locals (Store t a path e) depth fs m =
    done (Normal (machine_with m.locals (record { heap = write_heap l m.state.heap t (word_in (value_on l m a)).bits (steps l m.locals m.state path) (value_on l m e); globals = m.state.globals })))
execs l p locals (Pick x) depth fs m = Then (picked_local p (kind_of locals x)) (λ v. done (Normal (with_local x v m)))
execs l p locals (Seq a b) depth fs m = Then (execs l p locals a depth fs m) (normally (λ n. execs l p locals b depth fs n))
execs l p locals (Cond e a b) depth fs m = choose (holds_on l m e) (execs l p locals a depth fs m) (execs l p locals b depth fs m)
execs l p locals (Guard c a) depth fs m = choose (holds_on l m c.exp) (execs l p locals a depth fs m) (fault c.kind)
execs l p locals (Catch a b) depth fs m = Then (execs l p locals a depth fs m) (handled (λ n. execs l p locals b depth fs n))
execs l p locals (While cs e a) depth fs m = loop (entered l cs e) (λ gs n. Then (execs l p locals a depth gs n) turned) fs m
execs l p locals (Call x f es) depth fs m =
    Then (called fs depth (record { name = f; arguments = values_of l m.locals m.state es; state = m.state })) (λ r. done (Normal (result_into x r m.locals)))

-- each local begins with zeros
abbrev pub zero_locals : List Binder → Env
zero_locals [] = no_env
zero_locals (b ∷ bs) = with_name b.name (zero_word_at b.kind) (zero_locals bs)

-- the local that holds a function's result
abbrev pub result_local : Name
result_local = codes "$ret"

abbrev pub result_of : Option Kind → Machine → Option Value
result_of None m = None
result_of (Some k) m = Some (m.locals result_local)

-- A called body returns when it has ended, normally or by an exception.
abbrev pub ended : Option Kind → Flow → Ends Returned GuardKind
ended result (Normal m) = done (record { result = result_of result m; state = m.state })
ended result (Abrupt m) = done (record { result = result_of result m; state = m.state })

-- What isn't in the unit has no body: no well-formed unit calls it.
abbrev pub function_runs : Layout → Choice → Option SimplFn → Option Signature → Option ℕ → List Runs → Invocation → Ends Returned GuardKind
function_runs l p (Some f) (Some s) depth fs c =
    Then (execs l p f.locals f.body depth fs (machine_with (bound (names_of s.params) c.arguments (zero_locals f.locals)) c.state)) (ended s.result)
function_runs l p _ _ depth fs c = stop Turns

abbrev pub bodies : SimplUnit → Choice → List Runs → Runs
bodies u p fs depth c = function_runs u.layout p (simpl_fn u.functions c.name) (signature u.signatures c.name) depth fs c

abbrev pub functions_below : SimplUnit → Choice → ℕ → List Runs
functions_below u p n = below (bodies u p) n

-- what a function does at a bound of n turns
abbrev pub simpl_runs : SimplUnit → Choice → ℕ → Runs
simpl_runs u p n = bodies u p (functions_below u p n)
