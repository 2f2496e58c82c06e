-- The rule of loops, by induction on the bound.
use Rattle.std.proofs.Common.{◌≡◌, ℕ, zero, suc, Bool, true, false, not, ◌&&◌, List, [], ◌∷◌, Option, Some, ◌⊎◌, inl, inr, refl, sym, ap, ◌∙◌, subst, arith}
use Rattle.std.specs.Prelude.{unwrap_or}
use Rattle.std.proofs.lemmas.Bool.{and_parts}
use Rattle.correspondence.specs.Outcome.{Ends, Done, Failed, Turns, Then, goes_on, fails, done, stop, continued, loop}
use Rattle.c_values.specs.Name.{Name, are_distinct}
use Rattle.c_values.specs.Value.{truth_in}
use Rattle.c_values.specs.Choice.{Choice}
use Rattle.c_values.proofs.Options.{some_is}
use Rattle.expression_lang.specs.Expression.{Exp}
use Rattle.expression_lang.specs.Evaluation.{Env, State, value, holds}
use Rattle.expression_lang.specs.Sort.{Scalar, is_truth}
use Rattle.expression_lang.specs.Sorted.{names_with, program_sort}
use Rattle.expression_lang.specs.Signature.{bound}
use Rattle.expression_lang.specs.States.{IsOfSort}
use Rattle.ac_expr.specs.Fact.{Fact, Whole, NotTrue, AllSay}
use Rattle.monad_lang.proofs.AgreeingValues.{holds_agrees}
use Rattle.monad_lang.specs.Program as M
use Rattle.monad_lang.specs.Program.{Mon, Start}
use Rattle.monad_lang.specs.Run.{Answer, Failure, Runs, runs, entered, functions_below, start_names, start_values}
use Rattle.monad_lang.specs.Reach.{AtEach, EachTurn, IsTurn}
use Rattle.monad_lang.specs.Sorted.{scalars_given, start_scalars, are_scalars, one_for_each, IsWellFormed}
use Rattle.monad_lang.proofs.Given.{then_parts, fits_parts, given_there}
use Rattle.program_facts.specs.Lasting.{AreOfSorts}
use Rattle.program_facts.proofs.SortedValues.{bound_sorted, starts_sorted}
use Rattle.rule_parts.specs.Starts.{start_exps}
use Rattle.triple_lang.specs.Deriv.{Ground, Names}
use Rattle.hoare_check.specs.DeriveTable.{setting, scope, within, variables, Asserts, are_free_for}
use Rattle.assertion_walks.specs.Put.{put}
use Rattle.hoare_check.specs.Accepted.{HoldBelow, IsFine, Begins, Meets, IsDerived}
use Rattle.hoare_check.proofs.PutValues.{put_value}
use Rattle.hoare_check.proofs.Naming.{as_many, many_values, bound_past, bound_twice, named_twice}
use Rattle.hoare_check.proofs.Claims.{Fits, IsShown}
use Rattle.hoare_check.proofs.Begun.{shown_there, state_of, ended}
use Rattle.hoare_check.proofs.PlainRows.{asserted_sort, program_truth}
use Rattle.hoare_check.proofs.BindRow.{asserts_alike}
use Rattle.hoare_check.proofs.LoopLooks.{Looked, enters, leaves, looked, no_fault}
use Rattle.hoare_check.proofs.LoopStarts.{one_start_each, starts_are, named_values}

-- triples that hold below a bound hold below each smaller one
pub fewer_turns : (k : Ground) (p : Choice) (n : ℕ) → HoldBelow k p (suc n) → HoldBelow k p n
fewer_turns k p n h i less = h i (omega arith)

module _ (k : Ground) (ns : Names) (starts : List Start) (guard test : Exp) (m : Mon) (xs : List Name) (q : Exp) where
  abbrev ys : List Name
  ys = start_names starts

  -- what a well-sorted loop is made of
  pub record LoopFits : Type 0 where
    pub given : List Scalar
    pub starts_given : start_scalars (scope k ns) starts ≡ Some given
    pub names_distinct : are_distinct ys ≡ true
    pub guard_sorted : is_truth (program_sort (scope k (names_with ys given ns)) guard) ≡ true
    pub body : scalars_given (setting k (names_with ys given ns)) m ≡ Some given
    pub one_each : one_for_each xs given ≡ true

  pub loop_fits : Fits k ns (M.Loop starts guard test m) xs q → LoopFits
  loop_fits fit =
      let o = then_parts (start_scalars (scope k ns) starts) _ fit.given fit.sorted in
      let inner : Names = names_with ys o.0 ns in
      let of_guard = is_truth (program_sort (scope k inner) guard) in
      let of_test = is_truth (program_sort (scope k inner) test) in
      let of_body = are_scalars o.0 (scalars_given (setting k inner) m) in
      let f = fits_parts (are_distinct ys && of_guard && of_test && of_body) (Some o.0) fit.given o.2 in
      let i = and_parts (are_distinct ys && of_guard && of_test) of_body f.0 in
      let j = and_parts (are_distinct ys && of_guard) of_test i.0 in
      let d = and_parts (are_distinct ys) of_guard j.0 in
      record {
        given = o.0;
        starts_given = o.1;
        names_distinct = d.0;
        guard_sorted = d.1;
        body = given_there o.0 (scalars_given (setting k inner) m) i.1;
        one_each = subst (λ cs. one_for_each xs cs ≡ true) (sym (some_is f.1)) fit.one_each;
      }

  module _ (w : LoopFits) where
    abbrev inner : Names
    inner = names_with ys w.given ns

    pub scoped_within : within k starts ns ≡ inner
    scoped_within = ap (λ o. names_with ys (unwrap_or o []) ns) w.starts_given

    pub body_fits : (inv : Exp) → Asserts k inner inv → Fits k ns (M.Loop starts guard test m) xs q → Fits k inner m ys inv
    body_fits inv asserts fit =
        let one_each = one_start_each (scope k ns) starts w.given w.starts_given in
        let many = as_many ys w.given one_each in
        record {
          given = w.given;
          sorted = w.body;
          one_each = one_each;
          distinct = w.names_distinct;
          asserts = asserts_alike k inner (names_with ys w.given inner) inv (λ y h. sym (named_twice ys w.given w.given ns many many y)) asserts;
          calls = fit.calls;
        }

    module _ (formed : IsWellFormed k.unit) (p : Choice) (inv last : Exp)
        (keeps_guard : IsShown k inner (Whole inv ∷ []) guard)
        (bodies : (n : ℕ) → HoldBelow k p n → IsDerived k p n inner (Whole test ∷ Whole guard ∷ Whole inv ∷ []) m ys inv)
        (at_last : IsShown k inner (NotTrue test ∷ Whole guard ∷ Whole inv ∷ []) last)
        (last_asserts : Asserts k inner last) (last_is : last ≡ put xs (variables ys) q) (distinct : are_distinct xs ≡ true)
        (free : are_free_for ys xs q ≡ true) (env : Env) (depth : Option ℕ) where
      abbrev inside : Answer → Env
      inside a = bound ys a.values env

      -- where a turn may begin
      record IsTurning (a : Answer) : Type 0 where
        begins : Begins k inner (Whole inv ∷ []) (inside a) a.state
        sorted : AreOfSorts w.given a.values

      abbrev look : Answer → Ends (Answer ⊎ Answer) Failure
      look a = entered k.unit.layout guard test inside a

      abbrev turn : List Runs → Answer → Ends (Answer ⊎ Answer) Failure
      turn gs a = Then (runs k.unit.layout p m (inside a) depth gs a.state) (λ b. done (inl b))

      abbrev loops : ℕ → Answer → Ends Answer Failure
      loops n a = loop look turn (functions_below k.unit p n) a

      record LoopMeets (n : ℕ) (a : Answer) : Type 0 where
        lasts : loops n a (Failed tt) → ⊥
        gives : (b : Answer) → loops n a (Done b) → holds k.unit.layout (bound xs b.values env) b.state q ≡ true

      guarded : (a : Answer) → IsTurning a → holds k.unit.layout (inside a) a.state guard ≡ true
      guarded a t =
          shown_there k formed inner (Whole inv ∷ []) guard keeps_guard (program_truth k inner guard w.guard_sorted) (inside a) a.state t.begins

      with_facts : (a : Answer) (fs : List Fact) → IsTurning a → AllSay k.unit.layout (inside a) a.state fs → Begins k inner fs (inside a) a.state
      with_facts a fs t said = record { environment = t.begins.environment; heap = t.begins.heap; globals = t.begins.globals; facts = said }

      last_holds : (a : Answer) → IsTurning a → holds k.unit.layout (inside a) a.state test ≡ false → holds k.unit.layout
          (bound xs a.values env) a.state q ≡ true
      last_holds a t e =
          let l = k.unit.layout in
          let here = shown_there k formed inner (NotTrue test ∷ Whole guard ∷ Whole inv ∷ []) last at_last (asserted_sort k inner last last_asserts)
          (inside a) a.state
          (with_facts a (NotTrue test ∷ Whole guard ∷ Whole inv ∷ []) t (ap not e, (guarded a t, t.begins.facts))) in
          let some = many_values ys w.given a.values (as_many ys w.given (one_start_each (scope k ns) starts w.given w.starts_given)) t.sorted in
          let many = many_values xs w.given a.values (as_many xs w.given w.one_each) t.sorted in
          let puts = ap (λ d. value l (inside a) a.state d) last_is ∙ put_value l (inside a) a.state xs (variables ys) q distinct
          ∙ ap (λ vs. value l (bound xs vs (inside a)) a.state q) (named_values l a.state ys a.values env w.names_distinct some) in
          sym (ap truth_in puts ∙ holds_agrees l (bound xs a.values (inside a)) (bound xs a.values env) a.state q
          (bound_past ys xs q free a.values a.values env many)) ∙ here

      -- at no turn
      stops_here : (a : Answer) → IsTurning a → LoopMeets zero a
      stops_here a t = record { lasts = λ r. not_failed r; gives = λ b r. gives b r }
        where
          no_more : (z : Answer ⊎ Answer) → continued (λ (y : Answer). stop {F = Failure} Turns) z (Failed tt) → ⊥
          no_more (inl y) r = r
          no_more (inr y) r = r

          not_failed : loops zero a (Failed tt) → ⊥
          not_failed (goes_on {a} h r) = no_more a r
          not_failed (fails h) = no_fault (holds k.unit.layout (inside a) a.state guard) (holds k.unit.layout (inside a) a.state test) a (guarded a t) h

          left : (b : Answer) (z : Answer ⊎ Answer) → Looked (holds k.unit.layout (inside a) a.state guard) (holds k.unit.layout (inside a) a.state test) a z →
              continued (λ (y : Answer). stop {F = Failure} Turns) z (Done b) → holds k.unit.layout (bound xs b.values env) b.state q ≡ true
          left b _ (enters g e) r = absurd r
          left b _ (leaves g e) r = subst (λ c. holds k.unit.layout (bound xs c.values env) c.state q ≡ true) (sym r) (last_holds a t e)

          gives : (b : Answer) → loops zero a (Done b) → holds k.unit.layout (bound xs b.values env) b.state q ≡ true
          gives b (goes_on {a = z} h r) = left b z (looked (holds k.unit.layout (inside a) a.state guard) (holds k.unit.layout (inside a) a.state test) a z h) r

      abbrev Reaches : List Runs → Answer → Type 0
      Reaches fs a =
          EachTurn (λ b. IsTurn k.unit.layout guard test (inside b) b.state) (λ gs b. AtEach k.unit.layout p (IsFine k.unit) m (inside b) depth gs b.state)
          (λ gs b c. runs k.unit.layout p m (inside b) depth gs b.state (Done c)) fs a

      -- a turn, and the loop from where it is done
      module _ (n : ℕ) (below : HoldBelow k p n) (rest : (b : Answer) → IsTurning b → Reaches (functions_below k.unit p n) b → LoopMeets n b)
          (a : Answer) (t : IsTurning a) (reaches : Reaches (functions_below k.unit p (suc n)) a) where
        abbrev is_guarded : Bool
        is_guarded = holds k.unit.layout (inside a) a.state guard

        abbrev is_tested : Bool
        is_tested = holds k.unit.layout (inside a) a.state test

        abbrev body_runs : Ends Answer Failure
        body_runs = runs k.unit.layout p m (inside a) depth (functions_below k.unit p n) a.state

        body_meets : is_guarded ≡ true → is_tested ≡ true → Meets k p n m ys inv (inside a) depth a.state
        body_meets g e =
            bodies n below (inside a) depth a.state (with_facts a (Whole test ∷ Whole guard ∷ Whole inv ∷ []) t (e, (g, t.begins.facts))) (reaches (g, e)).0

        next_turn : is_guarded ≡ true → is_tested ≡ true → (b : Answer) → body_runs (Done b) → IsTurning b
        next_turn g e b r =
            let l = k.unit.layout in
            let one_each = one_start_each (scope k ns) starts w.given w.starts_given in
            let many = as_many ys w.given one_each in
            let end = ended k formed p n inner (Whole inv ∷ []) m ys w.given w.body many (inside a) depth a.state t.begins b r in
            let here = (body_meets g e).gives b r in
            let names : (y : Name) (c : Scalar) → inner y ≡ Some c → IsOfSort c (inside b y) =
            λ y c h. subst (λ v. IsOfSort c v) (bound_twice ys b.values a.values env end.many y)
            (end.environment y c (named_twice ys w.given w.given ns many many y ∙ h)) in
            record {
              begins = record {
                environment = names;
                heap = end.heap;
                globals = end.state.globals;
                facts = (
                  sym (holds_agrees l (bound ys b.values (inside a)) (inside b) b.state inv (λ y h. bound_twice ys b.values a.values env end.many y))
                      ∙ here,
                  tt,
                );
              };
              sorted = end.sorted;
            }

        goes_further : is_guarded ≡ true → is_tested ≡ true → (b : Answer) → body_runs (Done b) → LoopMeets n b
        goes_further g e b r = rest b (next_turn g e b r) ((reaches (g, e)).1 b r)

        after_look : (z : Answer ⊎ Answer) → Looked is_guarded is_tested a z → continued
            (λ (y : Answer). Then (turn (functions_below k.unit p n) y) (continued (loop look turn (functions_below k.unit p n)))) z (Failed tt) → ⊥
        after_look _ (leaves g e) r = r
        after_look _ (enters g e) (goes_on (goes_on {a = b} h i) r) =
            (goes_further g e b h).lasts (subst (λ z. continued (loop look turn (functions_below k.unit p n)) z (Failed tt)) i r)
        after_look _ (enters g e) (fails (goes_on h i)) = i
        after_look _ (enters g e) (fails (fails h)) = (body_meets g e).lasts h

        given_after : (c : Answer) (z : Answer ⊎ Answer) → Looked is_guarded is_tested a z →
            continued (λ (y : Answer). Then (turn (functions_below k.unit p n) y) (continued (loop look turn (functions_below k.unit p n)))) z (Done c) →
            holds k.unit.layout (bound xs c.values env) c.state q ≡ true
        given_after c _ (leaves g e) r = subst (λ d. holds k.unit.layout (bound xs d.values env) d.state q ≡ true) (sym r) (last_holds a t e)
        given_after c _ (enters g e) (goes_on (goes_on {a = b} h i) r) =
            (goes_further g e b h).gives c (subst (λ z. continued (loop look turn (functions_below k.unit p n)) z (Done c)) i r)

        not_failed : loops (suc n) a (Failed tt) → ⊥
        not_failed (goes_on {a = z} h r) = after_look z (looked is_guarded is_tested a z h) r
        not_failed (fails h) = no_fault is_guarded is_tested a (guarded a t) h

        gives_then : (c : Answer) → loops (suc n) a (Done c) → holds k.unit.layout (bound xs c.values env) c.state q ≡ true
        gives_then c (goes_on {a = z} h r) = given_after c z (looked is_guarded is_tested a z h) r

        turn_meets : LoopMeets (suc n) a
        turn_meets = record { lasts = λ r. not_failed r; gives = λ c r. gives_then c r }

      loop_meets : (n : ℕ) → HoldBelow k p n → (a : Answer) → IsTurning a → Reaches (functions_below k.unit p n) a → LoopMeets n a
      loop_meets zero below a t reaches = stops_here a t
      loop_meets (suc n) below a t reaches =
          let fewer = fewer_turns k p n below in turn_meets n fewer (λ b i j. loop_meets n fewer b i j) a t reaches

      pub from_start : (n : ℕ) → HoldBelow k p n → (fs : List Fact) (s : State) (first : Exp) → IsShown k ns fs first → Asserts k ns first → first ≡ put ys
          (start_exps starts) inv →
          Begins k ns fs env s → AtEach k.unit.layout p (IsFine k.unit) (M.Loop starts guard test m) env depth (functions_below k.unit p n) s →
          Meets k p n (M.Loop starts guard test m) xs q env depth s
      from_start n below fs s first shown asserts is b each =
          let l = k.unit.layout in
          let state = state_of k formed ns fs env s b in
          let here = shown_there k formed ns fs first shown (asserted_sort k ns first asserts) env s b in
          let puts = ap (λ d. value l env s d) is ∙ put_value l env s ys (start_exps starts) inv w.names_distinct
          ∙ ap (λ vs. value l (bound ys vs env) s inv) (sym (starts_are l s env starts)) in
          let sorted = starts_sorted (scope k ns) formed.layout k.unit.globals refl env b.environment s state starts w.given w.starts_given in
          let at : Answer = record { values = start_values l env s starts; state = s } in
          let turning : IsTurning at = record {
            begins = record {
              environment = bound_sorted (scope k ns) ys w.given (start_values l env s starts) env sorted b.environment;
              heap = b.heap;
              globals = b.globals;
              facts = (sym (ap truth_in puts) ∙ here, tt);
            };
            sorted = sorted;
          } in
          let done = loop_meets n below at turning each in
          record { lasts = done.lasts; gives = done.gives }
