-- Runs that begin on bytes end on bytes.
use Rattle.std.proofs.Common.{◌≡◌, ℕ, zero, suc, List, [], ◌∷◌, Option, Some, None, inl, inr, refl}
use Rattle.correspondence.specs.Always.{Always}
use Rattle.correspondence.proofs.Always.{then_always}
use Rattle.program_facts.proofs.KeptAlong.{Keeps, loop_keeps, choose_always, done_always, called_always}
use Rattle.c_memory.specs.Memory.{Memory}
use Rattle.c_values.specs.Name.{Name}
use Rattle.c_values.specs.Value.{Value}
use Rattle.c_values.specs.Layout.{Layout}
use Rattle.c_values.specs.Choice.{Choice}
use Rattle.c_memory.specs.Heap.{Heap, OnBytes, OnTypes}
use Rattle.expression_lang.specs.Evaluation.{Env, State, value, holds}
use Rattle.expression_lang.specs.Signature.{Invocation, values_of}
use Rattle.monad_lang.specs.Program.{Place, Stored, Mon, Ret, Bind, Guard, If, Write, Loop, Call, Pick, FinalFn, FinalUnit, final_fn}
use Rattle.monad_lang.specs.Run.{Answer, Runs, written, runs, function_runs, bodies, functions_below, program_runs}

abbrev pub IsOnBytes : Heap → Type 0
IsOnBytes (OnBytes m) = Unit {0}
IsOnBytes (OnTypes cells) = ⊥

pub bytes_there : (h : Heap) → IsOnBytes h → (m : Memory) × (h ≡ OnBytes m)
bytes_there (OnBytes m) k = (m, refl)
bytes_there (OnTypes cells) k = absurd k

abbrev pub EndsOnBytes : Answer → Type 0
EndsOnBytes a = IsOnBytes a.state.heap

-- a call on bytes
abbrev BeginsOnBytes : Invocation → Type 0
BeginsOnBytes c = IsOnBytes c.state.heap

abbrev pub FunctionKeepsBytes : Runs → Type 0
FunctionKeepsBytes f = (depth : Option ℕ) (c : Invocation) → IsOnBytes c.state.heap → Always EndsOnBytes (f depth c)

abbrev pub AllKeepBytes : List Runs → Type 0
AllKeepBytes [] = Unit {0}
AllKeepBytes (f ∷ fs) = FunctionKeepsBytes f × AllKeepBytes fs

place_keeps_bytes : (l : Layout) (env : Env) (h : Heap) (g : Name → Value) (place : Place) (v : Value) → IsOnBytes h → IsOnBytes (written l env (record { heap = h; globals = g }) place v).heap
place_keeps_bytes l env (OnBytes m) g (Stored t p path) v k = tt
place_keeps_bytes l env (OnTypes cells) g place v k = absurd k
place_keeps_bytes _ _ _ _ _ _ _ = tt

module _ (l : Layout) (p : Choice) where
  pub runs_keep_bytes : (m : Mon) (env : Env) (depth : Option ℕ) (gs : List Runs) → AllKeepBytes gs → (s : State) → IsOnBytes s.heap → Always EndsOnBytes (runs l p m env depth gs s)
  runs_keep_bytes (Ret es) env depth gs h s b = done_always EndsOnBytes _ b
  runs_keep_bytes (Bind m xs n) env depth gs h s b =
      then_always EndsOnBytes EndsOnBytes _ _ (runs_keep_bytes m env depth gs h s b) (λ a k c e. runs_keep_bytes n _ depth gs h a.state k c e)
  runs_keep_bytes (Guard e) env depth gs h s b = choose_always EndsOnBytes (holds l env s e) _ _ (λ k. done_always EndsOnBytes _ b) (λ k c e. absurd e)
  runs_keep_bytes (If e m n) env depth gs h s b = choose_always EndsOnBytes (holds l env s e) _ _ (λ k. runs_keep_bytes m env depth gs h s b) (λ k. runs_keep_bytes n env depth gs h s b)
  runs_keep_bytes (Write place e) env depth gs h s b = done_always EndsOnBytes _ (place_keeps_bytes l env s.heap s.globals place (value l env s e) b)
  runs_keep_bytes (Loop starts guard test m) env depth gs h s b =
      let K = Keeps EndsOnBytes EndsOnBytes in
      loop_keeps AllKeepBytes (λ f fs k. k.1) EndsOnBytes EndsOnBytes _ _
      (λ a k. choose_always K (holds l _ a.state guard) _ _ (λ i. choose_always K (holds l _ a.state test) _ _ (λ j. done_always K (inl a) k) (λ j. done_always K (inr a) k)) (λ i c e. absurd e))
      (λ fs q a k. then_always EndsOnBytes K _ _ (λ c e. runs_keep_bytes m _ depth fs q a.state k c e) (λ c j. done_always K (inl c) j))
      gs h _ b
  runs_keep_bytes (Call f es) env depth gs h s b =
      called_always BeginsOnBytes (λ c. EndsOnBytes) AllKeepBytes (λ g fs k d c u. k.0 d c u) gs h depth (record { name = f; arguments = values_of l env s es; state = s }) b
  runs_keep_bytes (Pick k) env depth gs h s b = then_always (λ v. Unit {0}) EndsOnBytes _ _ (λ v e. tt) (λ v u. done_always EndsOnBytes _ b)

  function_keeps_bytes : (f : Option FinalFn) (depth : Option ℕ) (gs : List Runs) → AllKeepBytes gs → (c : Invocation) → IsOnBytes c.state.heap → Always EndsOnBytes (function_runs l p f depth gs c)
  function_keeps_bytes None depth gs h c b = λ a e. absurd e
  function_keeps_bytes (Some f) depth gs h c b = runs_keep_bytes f.body _ depth gs h c.state b

module _ (u : FinalUnit) (p : Choice) where
  bodies_keep_bytes : (gs : List Runs) → AllKeepBytes gs → FunctionKeepsBytes (bodies u p gs)
  bodies_keep_bytes gs h depth c b = function_keeps_bytes u.layout p (final_fn u.functions c.name) depth gs h c b

  pub units_keep_bytes : (n : ℕ) → AllKeepBytes (functions_below u p n)
  units_keep_bytes zero = tt
  units_keep_bytes (suc n) = (bodies_keep_bytes (functions_below u p n) (units_keep_bytes n), units_keep_bytes n)

  pub calls_keep_bytes : (n : ℕ) → FunctionKeepsBytes (program_runs u p n)
  calls_keep_bytes n = bodies_keep_bytes (functions_below u p n) (units_keep_bytes n)
