-- What C statements and functions do (C99 6.8), as the set of a run's ends. A statement ends by going on, by break, by
-- continue or by return; or it is undefined, with the kind of its first undefined step; or it stops at a bound. There are
-- no exceptions and there is no Simpl in this.
use Rattle.std.specs.Prelude.{ℕ, Bool, true, false, List, [], ◌∷◌, Option, Some, None, Ok, ℤ, ◌⊎◌, if◌then◌else◌}
use Rattle.std.proofs.Common.{inl, inr}
use Rattle.correspondence.specs.Outcome.{Turns, Ends, done, fault, stop, given, Then, choose, loop}
use Rattle.correspondence.specs.Bound.{Functions, called, below}
use Rattle.c_values.specs.Name.{Name, with_name}
use Rattle.c_values.specs.Types.{CType}
use Rattle.c_values.specs.Value as V
use Rattle.c_values.specs.Layout.{Layout, scalar_width}
use Rattle.c_values.specs.Path.{upd}
use Rattle.c_values.specs.Choice.{Choice, picked}
use Rattle.c_memory.specs.Heap.{write_heap}
use Rattle.expression_lang.specs.Sort.{Level, Bytes}
use Rattle.expression_lang.specs.Evaluation.{Env}
use Rattle.expression_lang.specs.Signature.{Invocation, bound, no_env}
use Rattle.expression_lang.specs.GuardKind as K
use Rattle.expression_lang.specs.Machine.{Machine, machine_with, with_local, Returned}
use Rattle.c_lang.specs.Typed as C
use Rattle.c_lang.specs.Labels.{is_label, has_label}
use Rattle.c_meaning.specs.CValue.{Context, Defined, ◌>>=◌, Located, InMemory, InGlobal, value, values, located, accessible, converted, is_true, number_at}

pub data Flow : Type 0 where
  Next : Machine → Flow
  Broken : Machine → Flow
  Continued : Machine → Flow
  Returning : Option V.Value → Machine → Flow

abbrev pub Runs : Type 1
Runs = Functions Invocation Returned K.GuardKind

-- what a statement is run in: the unit's layout, the choice, and the level of its function
pub record Setting : Type 0 where
  pub layout : Layout
  pub choice : Choice
  pub level : Level

abbrev pub Ended : Type 1
Ended = Ends Flow K.GuardKind

abbrev pub context : Setting → Machine → Context
context t m = record { layout = t.layout; level = t.level; locals = m.locals; state = m.state }

-- the value of an expression, and then the rest
abbrev pub evaluated : {A : Type 0} → Defined A → (A → Ended) → Ended
evaluated r rest = Then (given r) rest

abbrev pub and_next : (Machine → Ended) → Flow → Ended
and_next rest (Next m) = rest m
and_next rest (Broken m) = done (Broken m)
and_next rest (Continued m) = done (Continued m)
and_next rest (Returning v m) = done (Returning v m)

abbrev pub stored : Layout → Located → V.Value → Machine → Machine
stored l (InMemory t p ps) v m = machine_with m.locals (record { heap = write_heap l m.state.heap t p.bits ps v; globals = m.state.globals })
stored l (InGlobal x ps) v m = machine_with m.locals (record { heap = m.state.heap; globals = with_name x (upd (m.state.globals x) ps v) m.state.globals })

-- a value goes to its target, which is evaluated now
abbrev pub assigned : Setting → C.Destination → V.Value → Machine → Ended
assigned t (C.ToLocal x u) v m = done (Next (with_local x v m))
assigned t (C.ToPlace p) v m = evaluated (located (context t m) p >>= λ s. accessible (context t m) s (Ok s)) (λ s. done (Next (stored t.layout s v m)))

abbrev pub result_value : Option V.Value → V.Value
result_value None = V.nothing
result_value (Some v) = v

-- what becomes of a call's result; the target is evaluated after the return
abbrev pub used : Setting → C.Use → V.Value → Machine → Ended
used t C.NoResult v m = done (Next m)
used t (C.Ignored from) v m = done (Next m)
used t (C.Assigned from target) v m = assigned t target (converted t.layout (C.target_type target) from v) m
used t (C.Returned from to) v m = done (Returning (Some (converted t.layout to from v)) m)

-- a call's end, in the calling function
abbrev pub and_use : Setting → C.Use → Machine → Returned → Ended
and_use t use' m r = used t use' (result_value r.result) (machine_with m.locals r.state)

-- a turn is made where the test is true
abbrev pub tested : Setting → C.Test → Machine → Ends (Machine ⊎ Flow) K.GuardKind
tested t C.Always m = done (inl m)
tested t (C.Tested e) m = Then (given (value (context t m) e)) (λ v. choose (is_true v) (done (inl m)) (done (inr (Next m))))

-- Break ends the loop, and Continue the body.
abbrev pub turned : (Machine → Ends (Machine ⊎ Flow) K.GuardKind) → Flow → Ends (Machine ⊎ Flow) K.GuardKind
turned rest (Next m) = rest m
turned rest (Continued m) = rest m
turned rest (Broken m) = done (inr (Next m))
turned rest (Returning v m) = done (inr (Returning v m))

-- the step of a `for`, after a body that didn't end the loop
abbrev pub stepped : (Machine → Ended) → Machine → Ends (Machine ⊎ Flow) K.GuardKind
stepped step m = Then (step m) (turned (λ n. done (inl n)))

-- goes on as in a turn that isn't the first
abbrev pub later : Machine ⊎ Flow → Ends ((Bool × Machine) ⊎ Flow) K.GuardKind
later (inl m) = done (inl (false, m))
later (inr f) = done (inr f)

-- the first turn of a do-while comes without a test: a loop that remembers whether it is in front of its first
abbrev pub tested_after_first : Setting → C.Test → Bool × Machine → Ends ((Bool × Machine) ⊎ Flow) K.GuardKind
tested_after_first t test (true, m) = done (inl (true, m))
tested_after_first t test (false, m) = Then (tested t test m) later

abbrev pub turned_later : Flow → Ends ((Bool × Machine) ⊎ Flow) K.GuardKind
turned_later f = Then (turned (λ n. done (inl n)) f) later

-- break ends a switch
abbrev pub switched : Flow → Ended
switched (Next m) = done (Next m)
switched (Broken m) = done (Next m)
switched (Continued m) = done (Continued m)
switched (Returning v m) = done (Returning v m)

-- the number of bits that a local's type has
abbrev pub local_width : Layout → CType → ℕ
local_width l t = scalar_width l.target t

abbrev mutual
  pub statement : Setting → C.Statement → Option ℕ → List Runs → Machine → Ended
  statement t C.Empty depth fs m = done (Next m)
  statement t (C.Block ss) depth fs m = statements t ss depth fs m
  statement t (C.Declare x u) depth fs m = Then (picked t.choice (local_width t.layout u)) (λ w. done (Next (with_local x (V.Bits w) m)))
  statement t (C.Assign target e) depth fs m = evaluated (value (context t m) e) (λ v. assigned t target v m)
  statement t (C.Call n f es use') depth fs m =
      evaluated (values (context t m) es) (λ vs. Then (called fs depth (record { name = f; arguments = vs; state = m.state })) (and_use t use' m))
  statement t (C.If e a b) depth fs m = evaluated (value (context t m) e) (λ v. choose (is_true v) (statement t a depth fs m) (statement t b depth fs m))
  statement t (C.While e a) depth fs m = loop (tested t (C.Tested e)) (λ gs n. Then (statement t a depth gs n) (turned (λ k. done (inl k)))) fs m
  statement t (C.DoWhile k a e) depth fs m = loop (tested_after_first t (C.Tested e)) (λ gs x. Then (statement t a depth gs x.1) turned_later) fs (true, m)
  statement t (C.For init test step a) depth fs m =
      Then (statements t init depth fs m) (and_next (λ n.
      loop (tested t test) (λ gs k. Then (statement t a depth gs k) (turned (stepped (λ j. statement t step depth gs j)))) fs n))
  statement t (C.Switch n i e gs) depth fs m =
      evaluated (value (context t m) e) (λ v. Then (groups t (number_at i v) (has_label (number_at i v) gs) gs depth fs m) switched)
  statement t C.Break depth fs m = done (Broken m)
  statement t C.Continue depth fs m = done (Continued m)
  statement t C.ReturnNothing depth fs m = done (Returning None m)
  statement t (C.Return e) depth fs m = evaluated (value (context t m) e) (λ v. done (Returning (Some v) m))

  -- in order, until one doesn't end by going on
  pub statements : Setting → C.Statements → Option ℕ → List Runs → Machine → Ended
  statements t C.no_statements depth fs m = done (Next m)
  statements t (C.next s ss) depth fs m = Then (statement t s depth fs m) (and_next (λ n. statements t ss depth fs n))

  -- the group that has the label, where one has it, else the default group, else nothing
  pub groups : Setting → ℤ → Bool → C.Groups → Option ℕ → List Runs → Machine → Ended
  groups t n labelled C.no_groups depth fs m = done (Next m)
  groups t n labelled (C.group labels is_default ss gs) depth fs m =
      choose (if labelled then is_label n labels else is_default) (statements t ss depth fs m) (groups t n labelled gs depth fs m)

-- A body that ends by going on returns, of a void function; the end of any other function isn't to be reached.
abbrev pub ended : Option CType → Flow → Ends Returned K.GuardKind
ended None (Next m) = done (record { result = None; state = m.state })
ended (Some u) (Next m) = fault K.Unreached
ended result (Returning v m) = done (record { result = v; state = m.state })
ended result (Broken m) = fault K.Unreached
ended result (Continued m) = fault K.Unreached

-- A local has zeros until its declaration is reached; no typed function reads it before.
abbrev pub zero_locals : Layout → List C.Variable → Env
zero_locals l [] = no_env
zero_locals l (v ∷ vs) = with_name v.name (V.Bits (record { width = local_width l v.type; bits = 0 })) (zero_locals l vs)

-- What isn't in the unit has no body: no typed unit calls it.
abbrev pub function_runs : Layout → Choice → (Name → Level) → Option C.TypedFn → Option ℕ → List Runs → Invocation → Ends Returned K.GuardKind
function_runs l p levels None depth fs c = stop Turns
function_runs l p levels (Some f) depth fs c =
    Then (statements (record { layout = l; choice = p; level = levels f.name }) f.body depth fs (machine_with (bound (C.variable_names f.params) c.arguments (zero_locals l f.locals)) c.state)) (ended f.result)

abbrev pub bodies : C.TypedUnit → (Name → Level) → Choice → List Runs → Runs
bodies u levels p fs depth c = function_runs u.layout p levels (C.typed_fn u.functions c.name) depth fs c

-- what the functions of a unit do at each bound below n, each watched by its level
abbrev pub functions_below : C.TypedUnit → (Name → Level) → Choice → ℕ → List Runs
functions_below u levels p n = below (bodies u levels p) n

-- what a C function does at a bound of n turns
abbrev pub c_runs : C.TypedUnit → (Name → Level) → Choice → ℕ → Runs
c_runs u levels p n = bodies u levels p (functions_below u levels p n)

-- the six hard kinds alone
abbrev pub plain : Name → Level
plain f = Bytes
