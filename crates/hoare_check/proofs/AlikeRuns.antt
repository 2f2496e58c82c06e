-- A well-sorted program does the same in two environments that agree on the names in scope.
use Rattle.std.proofs.Common.{◌≡◌, ℕ, zero, suc, Bool, true, false, ◌&&◌, List, [], Option, Some, ◌⊎◌, inl, refl, sym, ap, subst}
use Rattle.std.proofs.lemmas.Bool.{and_parts}
use Rattle.correspondence.specs.Outcome.{Outcome, Ends, Done, Failed, Stopped, Turns, Then, goes_on, fails, stops, choose, done, stop, continued, loop}
use Rattle.correspondence.specs.Bound.{called}
use Rattle.c_values.specs.Name.{are_distinct}
use Rattle.c_values.specs.Value.{Value}
use Rattle.c_values.specs.Choice.{Choice}
use Rattle.expression_lang.specs.Expression.{Exp}
use Rattle.expression_lang.specs.Evaluation.{Env, State, holds}
use Rattle.expression_lang.specs.Sort.{Scalar, sort_of_kind, is_truth}
use Rattle.expression_lang.specs.Sorted.{names_with, program_sort, scalars_of, fits_place}
use Rattle.expression_lang.specs.Signature.{signature, bound}
use Rattle.monad_lang.specs.Program as M
use Rattle.monad_lang.specs.Program.{Mon, Start}
use Rattle.monad_lang.specs.Run.{Answer, Failure, Runs, runs, entered, functions_below, start_names, start_values}
use Rattle.monad_lang.specs.Sorted.{scalars_given, start_scalars, place_sort, are_scalars, one_for_each, IsWellFormed}
use Rattle.monad_lang.proofs.Given.{then_parts, fits_parts, given_there}
use Rattle.program_facts.specs.Lasting.{AreOfSorts}
use Rattle.program_facts.proofs.Sorts.{call_parts}
use Rattle.program_facts.proofs.SortedValues.{bound_sorted, starts_sorted}
use Rattle.triple_lang.specs.Deriv.{Ground, Names}
use Rattle.hoare_check.specs.DeriveTable.{setting, scope}
use Rattle.exactness.specs.Triple.{IsHeapFor}
use Rattle.expression_lang.specs.States.{AreGlobals}
use Rattle.hoare_check.proofs.Naming.{AsMany, as_many, many_values, bound_alike}
use Rattle.hoare_check.proofs.JoinedNames.{known_among}
use Rattle.hoare_check.proofs.Begun.{state_of, ended}
use Rattle.hoare_check.proofs.LoopStarts.{one_start_each}
use Rattle.hoare_check.proofs.LoopLooks.{Looked, enters, leaves, looked}
use Rattle.hoare_check.proofs.AlikeValues.{AreAlike, alike_behind, truth_same, values_same, starts_same, writes_same}

-- each end of a first part and a rest is one of another first part and rest
pub then_there : {A B F : Type 0} (p p' : Ends A F) (r r' : A → Ends B F) → ((o : Outcome A F) → p o → p' o) →
    ((a : A) (o : Outcome B F) → p (Done a) → r a o → r' a o) →
    (o : Outcome B F) → Then p r o → Then p' r' o
then_there p p' r r' h k o (goes_on {a} i j) = goes_on (h (Done a) i) (k a o i j)
then_there p p' r r' h k (Failed f) (fails i) = fails (h (Failed f) i)
then_there p p' r r' h k (Stopped w) (stops i) = stops (h (Stopped w) i)

choose_there : {A F : Type 0} (b b' : Bool) (p p' q q' : Ends A F) (o : Outcome A F) → b ≡ b' → (p o → p' o) → (q o → q' o) → choose b p q o → choose b' p' q' o
choose_there true true p p' q q' o e h k r = h r
choose_there false false p p' q q' o e h k r = k r
choose_there true false p p' q q' o e h k r = absurd cc
choose_there false true p p' q q' o e h k r = absurd cc

done_there : {A F : Type 0} (a a' : A) (o : Outcome A F) → a ≡ a' → done a o → done a' o
done_there a a' o e h = subst (λ b. done b o) e h

pub same_answer : (vs ws : List Value) (s : State) → vs ≡ ws → let a : Answer = record { values = vs; state = s } in
    let b : Answer = record { values = ws; state = s } in a ≡ b
same_answer vs ws s e = ap (λ us. let a : Answer = record { values = us; state = s } in a) e

module _ (k : Ground) (formed : IsWellFormed k.unit) (p : Choice) (depth : Option ℕ) where
  abbrev run : ℕ → Mon → Env → State → Ends Answer Failure
  run n m env s = runs k.unit.layout p m env depth (functions_below k.unit p n) s

  -- what one program does in both
  abbrev DoesSame : Mon → Type 0
  DoesSame m =
      (ns : Names) (cs : List Scalar) → scalars_given (setting k ns) m ≡ Some cs → (n : ℕ) (env env' : Env) (s : State) → AreAlike k ns env env' s →
      (o : Outcome Answer Failure) → run n m env s o → run n m env' s o

  -- a loop's turns
  module _ (ns : Names) (starts : List Start) (guard test : Exp) (m : Mon) (cs : List Scalar) (ready : start_scalars (scope k ns) starts ≡ Some cs) where
    abbrev inner : Names
    inner = names_with (start_names starts) cs ns

    abbrev inside : Env → Answer → Env
    inside env a = bound (start_names starts) a.values env

    module _ (guarded : is_truth (program_sort (scope k inner) guard) ≡ true) (tested : is_truth (program_sort (scope k inner) test) ≡ true)
        (body : scalars_given (setting k inner) m ≡ Some cs) (same_body : DoesSame m) where
      abbrev look : Env → Answer → Ends (Answer ⊎ Answer) Failure
      look env a = entered k.unit.layout guard test (inside env) a

      abbrev turn : Env → List Runs → Answer → Ends (Answer ⊎ Answer) Failure
      turn env gs a = Then (runs k.unit.layout p m (inside env a) depth gs a.state) (λ b. done (inl b))

      -- where a turn begins in both
      abbrev pub AreInside : Env → Env → Answer → Type 0
      AreInside env env' a = AreAlike k inner (inside env a) (inside env' a) a.state

      look_there : (env env' : Env) (a : Answer) → AreInside env env' a → (o : Outcome (Answer ⊎ Answer) Failure) → look env a o → look env' a o
      look_there env env' a h o =
          choose_there _ _ _ _ _ _ o (truth_same k inner (inside env a) (inside env' a) a.state h guard guarded)
          (choose_there _ _ _ _ _ _ o (truth_same k inner (inside env a) (inside env' a) a.state h test tested) (λ r. r) (λ r. r)) (λ r. r)

      module _ (env env' : Env) (s : State) (outer : AreAlike k ns env env' s) where
        many_names : AsMany (start_names starts) cs
        many_names = as_many (start_names starts) cs (one_start_each (scope k ns) starts cs ready)

        -- with these values
        inside_with : (b : Answer) → AreOfSorts cs b.values → IsHeapFor k.unit.layout k.lifted b.state.heap →
            AreGlobals k.unit.layout k.unit.globals b.state.globals → AreInside env env' b
        inside_with b sorted heap globals = record {
          left =
              record {
                environment = bound_sorted (scope k ns)
                    (start_names starts) cs b.values env sorted outer.left.environment;
                heap = heap;
                globals = globals;
                facts = tt;
              };
          right =
              record {
                environment = bound_sorted (scope k ns)
                    (start_names starts) cs b.values env' sorted outer.right.environment;
                heap = heap;
                globals = globals;
                facts = tt;
              };
          same = λ y i.
              sym (bound_alike y (start_names starts) b.values env env' (many_values (start_names starts) cs b.values many_names sorted)
              (λ n. sym (outer.same y (known_among y (start_names starts) cs ns i n))));
        }

        pub next_inside : (n : ℕ) (a : Answer) → AreInside env env' a → (b : Answer) → run n m (inside env a) a.state (Done b) → AreInside env env' b
        next_inside n a h b r =
            let e = ended k formed p n inner [] m (start_names starts) cs body many_names (inside env a) depth a.state h.left b r in
            inside_with b e.sorted e.heap e.state.globals

        turn_there : (n : ℕ) (a : Answer) → AreInside env env' a → (o : Outcome (Answer ⊎ Answer) Failure) → turn env (functions_below k.unit p n) a o →
            turn env' (functions_below k.unit p n) a o
        turn_there n a h o = then_there _ _ _ _ (same_body inner cs body n (inside env a) (inside env' a) a.state h) (λ b q i j. j) o

        abbrev loops : Env → ℕ → Answer → Ends Answer Failure
        loops e n a = loop (look e) (turn e) (functions_below k.unit p n) a

        -- no turn is left
        none_left : (z : Answer ⊎ Answer) (o : Outcome Answer Failure) → continued (λ (y : Answer). stop {F = Failure} Turns) z o → continued
            (λ (y : Answer). stop {F = Failure} Turns) z o
        none_left z o r = r

        next_there : (n : ℕ) → ((b : Answer) → AreInside env env' b → (o : Outcome Answer Failure) → loops env n b o → loops env' n b o) →
            (a : Answer) → AreInside env env' a → (z : Answer ⊎ Answer) → turn env (functions_below k.unit p n) a (Done z) → (o : Outcome Answer Failure) →
            continued (loops env n) z o → continued (loops env' n) z o
        next_there n rest a h z (goes_on {a = b} i j) o r =
            subst (λ y. continued (loops env' n) y o) (sym j) (rest b (next_inside n a h b i) o (subst (λ y. continued (loops env n) y o) j r))

        entered_there : (n : ℕ) → ((b : Answer) → AreInside env env' b → (o : Outcome Answer Failure) → loops env n b o → loops env' n b o) →
            (a : Answer) → AreInside env env' a → (z : Answer ⊎ Answer) → Looked (holds k.unit.layout (inside env a) a.state guard)
            (holds k.unit.layout (inside env a) a.state test) a z →
            (o : Outcome Answer Failure) → continued (λ (y : Answer). Then (turn env (functions_below k.unit p n) y) (continued (loops env n))) z o →
            continued (λ (y : Answer). Then (turn env' (functions_below k.unit p n) y) (continued (loops env' n))) z o
        entered_there n rest a h _ (enters g t) o r = then_there _ _ _ _ (turn_there n a h) (λ z q i j. next_there n rest a h z i q j) o r
        entered_there n rest a h _ (leaves g t) o r = r

        loops_there : (n : ℕ) (a : Answer) → AreInside env env' a → (o : Outcome Answer Failure) → loops env n a o → loops env' n a o
        loops_there zero a h o r = then_there _ _ _ _ (look_there env env' a h) (λ z q i j. none_left z q j) o r
        loops_there (suc n) a h o r =
            then_there _ _ _ _ (look_there env env' a h)
            (λ z q i j. entered_there n (λ b w u v. loops_there n b w u v) a h z
            (looked (holds k.unit.layout (inside env a) a.state guard) (holds k.unit.layout (inside env a) a.state test) a z i) q j) o r

        pub begun_inside : AreInside env env' (record { values = start_values k.unit.layout env s starts; state = s })
        begun_inside =
            inside_with (record { values = start_values k.unit.layout env s starts; state = s })
            (starts_sorted (scope k ns) formed.layout k.unit.globals refl env outer.left.environment s
            (state_of k formed ns [] env s outer.left) starts cs ready) outer.left.heap outer.left.globals

        loop_there : (n : ℕ) (o : Outcome Answer Failure) → run n (M.Loop starts guard test m) env s o → run n (M.Loop starts guard test m) env' s o
        loop_there n o r =
            subst (λ a. loops env' n a o) (same_answer _ _ s (starts_same k ns env env' s outer starts cs ready))
            (loops_there n (record { values = start_values k.unit.layout env s starts; state = s }) begun_inside o r)

  -- it does in the second what it does in the first
  pub runs_there : (m : Mon) → DoesSame m
  runs_there (M.Ret es) ns cs i n env env' s h o r = done_there _ _ o (same_answer _ _ s (values_same k ns env env' s h es cs i)) r
  runs_there (M.Bind m xs m') ns cs i n env env' s h o r =
      let w = then_parts (scalars_given (setting k ns) m) _ cs i in
      let f = fits_parts (one_for_each xs w.0 && are_distinct xs) (scalars_given (setting k (names_with xs w.0 ns)) m') cs w.2 in
      let many = as_many xs w.0 (and_parts (one_for_each xs w.0) (are_distinct xs) f.0).0 in
      then_there _ _ _ _ (runs_there m ns w.0 w.1 n env env' s h)
      (λ a q j. runs_there m' (names_with xs w.0 ns) cs f.1 n (bound xs a.values env) (bound xs a.values env') a.state
      (alike_behind k formed ns env env' s h xs w.0 a (ended k formed p n ns [] m xs w.0 w.1 many env depth s h.left a j)
      (ended k formed p n ns [] m xs w.0 w.1 many env' depth s h.right a (runs_there m ns w.0 w.1 n env env' s h (Done a) j))) q) o r
  runs_there (M.Guard e) ns cs i n env env' s h o r =
      let f = fits_parts (is_truth (program_sort (scope k ns) e)) (Some []) cs i in
      choose_there _ _ _ _ _ _ o (truth_same k ns env env' s h e f.0) (λ q. q) (λ q. q) r
  runs_there (M.If e m m') ns cs i n env env' s h o r =
      let w = then_parts (scalars_given (setting k ns) m) _ cs i in
      let f = fits_parts (is_truth (program_sort (scope k ns) e) && are_scalars w.0 (scalars_given (setting k ns) m')) (Some w.0) cs w.2 in
      let j = and_parts (is_truth (program_sort (scope k ns) e)) (are_scalars w.0 (scalars_given (setting k ns) m')) f.0 in
      choose_there _ _ _ _ _ _ o (truth_same k ns env env' s h e j.0) (runs_there m ns w.0 w.1 n env env' s h o)
      (runs_there m' ns w.0 (given_there w.0 (scalars_given (setting k ns) m') j.1) n env env' s h o) r
  runs_there (M.Write place e) ns cs i n env env' s h o r =
      let f = fits_parts (fits_place (place_sort (scope k ns) place) (program_sort (scope k ns) e)) (Some []) cs i in
      done_there _ _ o (ap (λ c. let a : Answer = record { values = []; state = c } in a) (writes_same k ns env env' s h place e f.0)) r
  runs_there (M.Loop starts guard test m) ns cs i n env env' s h o r =
      let ys = start_names starts in
      let w = then_parts (start_scalars (scope k ns) starts) _ cs i in
      let inner = setting k (names_with ys w.0 ns) in
      let of_guard = is_truth (program_sort inner.scope guard) in
      let of_test = is_truth (program_sort inner.scope test) in
      let of_body = are_scalars w.0 (scalars_given inner m) in
      let f = fits_parts (are_distinct ys && of_guard && of_test && of_body) (Some w.0) cs w.2 in
      let a = and_parts (are_distinct ys && of_guard && of_test) of_body f.0 in
      let b = and_parts (are_distinct ys && of_guard) of_test a.0 in
      let c = and_parts (are_distinct ys) of_guard b.0 in
      loop_there ns starts guard test m w.0 w.1 c.1 b.1 (given_there w.0 (scalars_given inner m) a.1) (runs_there m) env env' s h n o r
  runs_there (M.Call g es) ns cs i n env env' s h o r =
      let c = call_parts sort_of_kind (signature (setting k ns).functions g) (scalars_of (scope k ns) es) cs i in
      subst (λ vs. called (functions_below k.unit p n) depth (record { name = g; arguments = vs; state = s }) o) (values_same k ns env env' s h es _ c.2) r
  runs_there (M.Pick kind) ns cs i n env env' s h o r = r
