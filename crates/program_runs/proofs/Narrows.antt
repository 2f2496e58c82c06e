-- A run in 128 bits that meets no wide operation is a run.
use Rattle.std.proofs.Common.{◌≡◌, ℕ, zero, suc, Bool, true, false, List, [], ◌∷◌, Option, Some, None, refl, inl, inr, ◌⊎◌}
use Rattle.correspondence.specs.Outcome.{Limit, Turns, Depth, Done, Failed, Stopped, Ends, done, fault, stop, Then, goes_on, fails, stops, choose, continued, loop}
use Rattle.correspondence.specs.Bound.{called}
use Rattle.c_values.specs.Layout.{Layout}
use Rattle.c_values.specs.Choice.{Choice, Any, Fill, picked}
use Rattle.expression_lang.specs.Expression.{Exp}
use Rattle.expression_lang.specs.Evaluation.{Env, State, holds}
use Rattle.expression_lang.specs.Wide.{Operation, wide}
use Rattle.expression_lang.specs.Sort.{Kind, WordKind, NatKind, IntKind, BoolKind}
use Rattle.expression_lang.specs.View.{picked_at}
use Rattle.expression_lang.specs.Signature.{Invocation, bound, values_of}
use Rattle.monad_lang.specs.Program.{Mon, Ret, Bind, Guard, If, Write, Loop, Call, Pick, FinalFn, FinalUnit, final_fn}
use Rattle.monad_lang.specs.Run.{Answer, Failure, Runs, start_names, entered, runs, function_runs, functions_below, program_runs}
use Rattle.program_runs.specs.WideRun.{Trouble, Fails, IsWide, WideRuns, unless, wide_entered, wide_runs, wide_function_runs, wide_functions_below, wide_program_runs, Narrows}

same : {A : Type 0} (a : A) → Narrows (done a) (done a)
same a = record { done = λ b h. h; fails = λ h. absurd h; stops = λ w h. absurd h }

failed : {A : Type 0} → Narrows {A = A} (fault Fails) (fault tt)
failed = record { done = λ b h. absurd h; fails = λ h. refl; stops = λ w h. absurd h }

stopped : {A : Type 0} (w : Limit) → Narrows {A = A} (stop w) (stop w)
stopped w = record { done = λ b h. absurd h; fails = λ h. absurd h; stops = λ v h. h }

wide_first : {A : Type 0} (o : Option Operation) (p : Ends A Trouble) (q : Ends A Failure) → Narrows p q → Narrows (unless o p) q
wide_first None p q h = h
wide_first (Some x) p q h = record { done = λ b k. absurd k; fails = λ k. absurd (other k); stops = λ w k. absurd k }
  where
    other : Fails ≡ IsWide x → ⊥
    other k = cc

either : {A : Type 0} (b : Bool) (p q : Ends A Trouble) (r s : Ends A Failure) → Narrows p r → Narrows q s → Narrows (choose b p q) (choose b r s)
either true p q r s h k = h
either false p q r s h k = k

module _ {A B : Type 0} (p : Ends A Trouble) (q : Ends A Failure) (f : A → Ends B Trouble) (g : A → Ends B Failure) (first : Narrows p q) (rest : (a : A) → Narrows (f a) (g a)) where
  then_done : (b : B) → Then p f (Done b) → Then q g (Done b)
  then_done b (goes_on {a} h k) = goes_on (first.done a h) ((rest a).done b k)

  then_fails : Then p f (Failed Fails) → Then q g (Failed tt)
  then_fails (goes_on {a} h k) = goes_on (first.done a h) ((rest a).fails k)
  then_fails (fails h) = fails (first.fails h)

  then_stops : (w : Limit) → Then p f (Stopped w) → Then q g (Stopped w)
  then_stops w (goes_on {a} h k) = goes_on (first.done a h) ((rest a).stops w k)
  then_stops w (stops h) = stops (first.stops w h)

  in_turn : Narrows (Then p f) (Then q g)
  in_turn = record { done = then_done; fails = then_fails; stops = then_stops }

-- functions at each bound

AllNarrow : List WideRuns → List Runs → Type 0
AllNarrow [] [] = Unit {0}
AllNarrow (f ∷ fs) (g ∷ gs) = ((depth : Option ℕ) (c : Invocation) → Narrows (f depth c) (g depth c)) × AllNarrow fs gs
AllNarrow [] (g ∷ gs) = ⊥
AllNarrow (f ∷ fs) [] = ⊥

calls : (fs : List WideRuns) (gs : List Runs) → AllNarrow fs gs → (depth : Option ℕ) (c : Invocation) → Narrows (called fs depth c) (called gs depth c)
unfolding AllNarrow
calls [] [] h depth c = stopped Turns
calls (f ∷ fs) (g ∷ gs) h None c = h.0 None c
calls (f ∷ fs) (g ∷ gs) h (Some zero) c = stopped Depth
calls (f ∷ fs) (g ∷ gs) h (Some (suc d)) c = h.0 (Some d) c
calls [] (g ∷ gs) h depth c = absurd h
calls (f ∷ fs) [] h depth c = absurd h

-- loops

module _ (enter : Answer → Ends (Answer ⊎ Answer) Trouble) (enter' : Answer → Ends (Answer ⊎ Answer) Failure) (body : List WideRuns → Answer → Ends (Answer ⊎ Answer) Trouble)
    (body' : List Runs → Answer → Ends (Answer ⊎ Answer) Failure) (enters : (a : Answer) → Narrows (enter a) (enter' a))
    (turns : (fs : List WideRuns) (gs : List Runs) → AllNarrow fs gs → (a : Answer) → Narrows (body fs a) (body' gs a)) where
  goes : (next : Answer → Ends Answer Trouble) (next' : Answer → Ends Answer Failure) → ((a : Answer) → Narrows (next a) (next' a)) → (x : Answer ⊎ Answer) → Narrows (continued next x) (continued next' x)
  goes next next' h (inl a) = h a
  goes next next' h (inr a) = same a

  looped : (fs : List WideRuns) (gs : List Runs) → AllNarrow fs gs → (a : Answer) → Narrows (loop enter body fs a) (loop enter' body' gs a)
  unfolding AllNarrow
  looped [] [] h a = in_turn (enter a) (enter' a) _ _ (enters a) (goes _ _ (λ b. stopped Turns))
  looped (f ∷ fs) (g ∷ gs) h a =
      in_turn (enter a) (enter' a) _ _ (enters a) (goes _ _ (λ b. in_turn (body fs b) (body' gs b) _ _ (turns fs gs h.1 b) (goes _ _ (looped fs gs h.1))))
  looped [] (g ∷ gs) h a = absurd h
  looped (f ∷ fs) [] h a = absurd h

word_picked : (p : Choice) (n : ℕ) → Narrows (picked p n) (picked p n)
word_picked Any n = record { done = λ b h. h; fails = λ h. absurd h; stops = λ w h. absurd h }
word_picked (Fill k) n = same _

picks : (p : Choice) (k : Kind) → Narrows (picked_at p k) (picked_at p k)
picks p (WordKind n) = in_turn (picked p n) (picked p n) _ _ (word_picked p n) (λ w. same _)
picks p (NatKind n) = in_turn (picked p n) (picked p n) _ _ (word_picked p n) (λ w. same _)
picks p (IntKind n) = in_turn (picked p n) (picked p n) _ _ (word_picked p n) (λ w. same _)
picks Any BoolKind = record { done = λ b h. h; fails = λ h. absurd h; stops = λ w h. absurd h }
picks (Fill k) BoolKind = same _

module _ (l : Layout) (p : Choice) where
  enters : (guard test : Exp) (env : Answer → Env) (a : Answer) → Narrows (wide_entered l guard test env a) (entered l guard test env a)
  enters guard test env a =
      wide_first (wide l (env a) a.state guard) _ _
      (either (holds l (env a) a.state guard) _ _ _ _ (wide_first (wide l (env a) a.state test) _ _ (either (holds l (env a) a.state test) _ _ _ _ (same (inl a)) (same (inr a)))) failed)

  program_narrows : (m : Mon) (env : Env) (depth : Option ℕ) (fs : List WideRuns) (gs : List Runs) → AllNarrow fs gs → (s : State) → Narrows (wide_runs l p m env depth fs s) (runs l p m env depth gs s)
  program_narrows (Ret es) env depth fs gs h s = wide_first _ _ _ (same _)
  program_narrows (Bind m xs n) env depth fs gs h s = in_turn _ _ _ _ (program_narrows m env depth fs gs h s) (λ a. program_narrows n (bound xs a.values env) depth fs gs h a.state)
  program_narrows (Guard e) env depth fs gs h s = wide_first _ _ _ (either (holds l env s e) _ _ _ _ (same _) failed)
  program_narrows (If e m n) env depth fs gs h s = wide_first _ _ _ (either (holds l env s e) _ _ _ _ (program_narrows m env depth fs gs h s) (program_narrows n env depth fs gs h s))
  program_narrows (Write place e) env depth fs gs h s = wide_first _ _ _ (same _)
  program_narrows (Loop starts guard test m) env depth fs gs h s =
      wide_first _ _ _
      (looped _ _ _ _ (enters guard test (λ a. bound (start_names starts) a.values env))
      (λ fs' gs' k a. in_turn _ _ _ _ (program_narrows m (bound (start_names starts) a.values env) depth fs' gs' k a.state) (λ b. same (inl b))) fs gs h _)
  program_narrows (Call f es) env depth fs gs h s = wide_first _ _ _ (calls fs gs h depth (record { name = f; arguments = values_of l env s es; state = s }))
  program_narrows (Pick k) env depth fs gs h s = in_turn _ _ _ _ (picks p k) (λ v. same _)

  function_narrows : (o : Option FinalFn) (depth : Option ℕ) (fs : List WideRuns) (gs : List Runs) → AllNarrow fs gs → (c : Invocation) → Narrows (wide_function_runs l p o depth fs c) (function_runs l p o depth gs c)
  function_narrows None depth fs gs h c = stopped Turns
  function_narrows (Some f) depth fs gs h c = program_narrows f.body _ depth fs gs h c.state

below_narrow : (u : FinalUnit) (p : Choice) (n : ℕ) → AllNarrow (wide_functions_below u p n) (functions_below u p n)
unfolding AllNarrow
below_narrow u p zero = tt
below_narrow u p (suc n) = (λ depth c. function_narrows u.layout p (final_fn u.functions c.name) depth (wide_functions_below u p n) (functions_below u p n) (below_narrow u p n) c, below_narrow u p n)

-- each end of a call that isn't a wide operation is an end of the call where numbers have no limit
pub call_narrows : (u : FinalUnit) (p : Choice) (n : ℕ) (depth : Option ℕ) (c : Invocation) → Narrows (wide_program_runs u p n depth c) (program_runs u p n depth c)
call_narrows u p n depth c = function_narrows u.layout p (final_fn u.functions c.name) depth (wide_functions_below u p n) (functions_below u p n) (below_narrow u p n) c
