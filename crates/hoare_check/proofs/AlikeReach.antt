-- What is fine at each write and call that a program reaches is so in an environment that agrees on the names in scope.
use Rattle.std.proofs.Common.{◌≡◌, ℕ, zero, suc, Bool, true, false, ◌&&◌, List, [], Option, Some, ◌∙◌, subst}
use Rattle.std.proofs.lemmas.Bool.{and_parts}
use Rattle.correspondence.specs.Outcome.{Done}
use Rattle.c_values.specs.Name.{are_distinct}
use Rattle.c_values.specs.Choice.{Choice}
use Rattle.expression_lang.specs.Expression.{Exp}
use Rattle.expression_lang.specs.Evaluation.{Env, State, holds}
use Rattle.expression_lang.specs.Sort.{Scalar, sort_of_kind, is_truth}
use Rattle.expression_lang.specs.Sorted.{names_with, program_sort, scalars_of, fits_place}
use Rattle.expression_lang.specs.Signature.{signature, bound}
use Rattle.monad_lang.specs.Program as M
use Rattle.monad_lang.specs.Program.{Mon, Start}
use Rattle.monad_lang.specs.Run.{Answer, runs, functions_below, start_names, start_values}
use Rattle.monad_lang.specs.Reach.{AtEach, EachTurn, IsTurn, IfTrue, IfFalse}
use Rattle.monad_lang.specs.Sorted.{scalars_given, start_scalars, place_sort, are_scalars, one_for_each, IsWellFormed}
use Rattle.monad_lang.proofs.Given.{then_parts, fits_parts, given_there}
use Rattle.program_facts.proofs.Sorts.{call_parts}
use Rattle.triple_lang.specs.Deriv.{Ground, Names}
use Rattle.hoare_check.specs.DeriveTable.{setting, scope}
use Rattle.hoare_check.specs.Accepted.{IsFine}
use Rattle.hoare_check.proofs.Naming.{as_many}
use Rattle.hoare_check.proofs.Begun.{ended}
use Rattle.hoare_check.proofs.AlikeValues.{AreAlike, turned, alike_behind, truth_same, starts_same, fine_write, fine_call}
use Rattle.hoare_check.proofs.AlikeRuns.{next_inside, begun_inside, same_answer, runs_there}

chosen : (b b' : Bool) (A A' B B' : Type 0) → b ≡ b' → (A → A') → (B → B') → IfTrue b A × IfFalse b B → IfTrue b' A' × IfFalse b' B'
chosen true true A A' B B' e f g h = (f h.0, tt)
chosen false false A A' B B' e f g h = (tt, g h.1)
chosen true false A A' B B' e f g h = absurd cc
chosen false true A A' B B' e f g h = absurd cc

module _ (k : Ground) (formed : IsWellFormed k.unit) (p : Choice) (depth : Option ℕ) where
  abbrev reach : ℕ → Mon → Env → State → Type 0
  reach n m env s = AtEach k.unit.layout p (IsFine k.unit) m env depth (functions_below k.unit p n) s

  abbrev ReachesSame : Mon → Type 0
  ReachesSame m =
      (ns : Names) (cs : List Scalar) → scalars_given (setting k ns) m ≡ Some cs → (n : ℕ) (env env' : Env) (s : State) → AreAlike k ns env env' s →
      reach n m env s → reach n m env' s

  module _ (ns : Names) (starts : List Start) (guard test : Exp) (m : Mon) (cs : List Scalar) (ready : start_scalars (scope k ns) starts ≡ Some cs)
      (guarded : is_truth (program_sort (scope k (names_with (start_names starts) cs ns)) guard) ≡ true)
      (tested : is_truth (program_sort (scope k (names_with (start_names starts) cs ns)) test) ≡ true)
      (body : scalars_given (setting k (names_with (start_names starts) cs ns)) m ≡ Some cs) (same_body : ReachesSame m)
      (env env' : Env) (s : State) (outer : AreAlike k ns env env' s) where
    abbrev inner : Names
    inner = names_with (start_names starts) cs ns

    abbrev inside : Env → Answer → Env
    inside e a = bound (start_names starts) a.values e

    abbrev turns : Env → ℕ → Answer → Type 0
    turns e n a =
        EachTurn (λ b. IsTurn k.unit.layout guard test (inside e b) b.state) (λ gs b. AtEach k.unit.layout p (IsFine k.unit) m (inside e b) depth gs b.state)
        (λ gs b c. runs k.unit.layout p m (inside e b) depth gs b.state (Done c)) (functions_below k.unit p n) a

    abbrev AreHere : Answer → Type 0
    AreHere a = AreAlike k inner (inside env a) (inside env' a) a.state

    -- the turn that is made in the second is made in the first
    turn_back : (a : Answer) → AreHere a → IsTurn k.unit.layout guard test (inside env' a) a.state → IsTurn k.unit.layout guard test (inside env a) a.state
    turn_back a h t = (
      truth_same k inner (inside env a) (inside env' a) a.state h guard guarded ∙ t.0,
      truth_same k inner (inside env a)
          (inside env' a) a.state h test tested ∙ t.1,
    )

    next : (n : ℕ) (a : Answer) → AreHere a → (b : Answer) → runs k.unit.layout p m (inside env a) depth (functions_below k.unit p n) a.state (Done b) →
        AreHere b
    next n a h b r = next_inside k formed p depth ns starts guard test m cs ready guarded tested body (runs_there k formed p depth m) env env' s outer n a h b r

    turns_reach : (n : ℕ) (a : Answer) → AreHere a → turns env n a → turns env' n a
    turns_reach zero a h t = tt
    turns_reach (suc n) a h t = λ made.
        let first = t (turn_back a h made) in (
          same_body inner cs body n (inside env a) (inside env' a) a.state h first.0,
          λ b r.
              let back = runs_there k formed p depth m inner cs body n (inside env' a) (inside env a) a.state
              (turned k inner (inside env a) (inside env' a) a.state h) (Done b) r in
              turns_reach n b (next n a h b back) (first.1 b back),
        )

    loop_reaches : (n : ℕ) → reach n (M.Loop starts guard test m) env s → reach n (M.Loop starts guard test m) env' s
    loop_reaches n r =
        let at : Answer = record { values = start_values k.unit.layout env s starts; state = s } in
        let here = begun_inside k formed p depth ns starts guard test m cs ready guarded tested body (runs_there k formed p depth m) env env' s outer in
        subst (λ a. turns env' n a) (same_answer _ _ s (starts_same k ns env env' s outer starts cs ready)) (turns_reach n at here r)

  pub reaches_there : (m : Mon) → ReachesSame m
  reaches_there (M.Ret es) ns cs i n env env' s h r = tt
  reaches_there (M.Bind m xs m') ns cs i n env env' s h r =
      let w = then_parts (scalars_given (setting k ns) m) _ cs i in
      let f = fits_parts (one_for_each xs w.0 && are_distinct xs) (scalars_given (setting k (names_with xs w.0 ns)) m') cs w.2 in
      let many = as_many xs w.0 (and_parts (one_for_each xs w.0) (are_distinct xs) f.0).0 in (
        reaches_there m ns w.0 w.1 n env env' s h r.0,
        λ a j.
            let back = runs_there k formed p depth m ns w.0 w.1 n env' env s (turned k ns env env' s h) (Done a) j in
            reaches_there m' (names_with xs w.0 ns) cs f.1 n (bound xs a.values env) (bound xs a.values env') a.state
            (alike_behind k formed ns env env' s h xs w.0 a (ended k formed p n ns [] m xs w.0 w.1 many env depth s h.left a back)
            (ended k formed p n ns [] m xs w.0 w.1 many env' depth s h.right a j)) (r.1 a back),
      )
  reaches_there (M.Guard e) ns cs i n env env' s h r = tt
  reaches_there (M.If e m m') ns cs i n env env' s h r =
      let w = then_parts (scalars_given (setting k ns) m) _ cs i in
      let f = fits_parts (is_truth (program_sort (scope k ns) e) && are_scalars w.0 (scalars_given (setting k ns) m')) (Some w.0) cs w.2 in
      let j = and_parts (is_truth (program_sort (scope k ns) e)) (are_scalars w.0 (scalars_given (setting k ns) m')) f.0 in
      chosen (holds k.unit.layout env s e) (holds k.unit.layout env' s e) (reach n m env s) (reach n m env' s) (reach n m' env s) (reach n m' env' s)
      (truth_same k ns env env' s h e j.0) (reaches_there m ns w.0 w.1 n env env' s h)
      (reaches_there m' ns w.0 (given_there w.0 (scalars_given (setting k ns) m') j.1) n env env' s h) r
  reaches_there (M.Write place e) ns cs i n env env' s h r =
      let f = fits_parts (fits_place (place_sort (scope k ns) place) (program_sort (scope k ns) e)) (Some []) cs i in
      fine_write k ns env env' s h place e f.0 r
  reaches_there (M.Loop starts guard test m) ns cs i n env env' s h r =
      let ys = start_names starts in
      let w = then_parts (start_scalars (scope k ns) starts) _ cs i in
      let inner = setting k (names_with ys w.0 ns) in
      let of_guard = is_truth (program_sort inner.scope guard) in
      let of_test = is_truth (program_sort inner.scope test) in
      let of_body = are_scalars w.0 (scalars_given inner m) in
      let f = fits_parts (are_distinct ys && of_guard && of_test && of_body) (Some w.0) cs w.2 in
      let a = and_parts (are_distinct ys && of_guard && of_test) of_body f.0 in
      let b = and_parts (are_distinct ys && of_guard) of_test a.0 in
      let c = and_parts (are_distinct ys) of_guard b.0 in
      loop_reaches ns starts guard test m w.0 w.1 c.1 b.1 (given_there w.0 (scalars_given inner m) a.1) (reaches_there m) env env' s h n r
  reaches_there (M.Call g es) ns cs i n env env' s h r =
      let c = call_parts sort_of_kind (signature (setting k ns).functions g) (scalars_of (scope k ns) es) cs i in
      fine_call k ns env env' s h g es _ c.2 r
  reaches_there (M.Pick kind) ns cs i n env env' s h r = tt
