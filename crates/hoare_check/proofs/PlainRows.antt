-- The rules of what gives values, guards, choices and picks.
use Rattle.std.proofs.Common.{◌≡◌, ℕ, Bool, true, false, not, ◌&&◌, List, [], ◌∷◌, Some, refl, sym, ap, ◌∙◌, subst}
use Rattle.std.proofs.lemmas.Bool.{and_parts, true≢false}
use Rattle.std.specs.Prelude.{unwrap_or}
use Rattle.correspondence.specs.Outcome.{Done, Failed, goes_on, fails, choose, done, fault}
use Rattle.c_values.specs.Name.{Name, are_distinct}
use Rattle.c_values.specs.Value.{truth_in}
use Rattle.c_values.specs.Choice.{Choice, Any, Fill}
use Rattle.c_values.proofs.Options.{some_is}
use Rattle.expression_lang.specs.Expression.{Exp}
use Rattle.expression_lang.specs.Evaluation.{Env, State, value, holds}
use Rattle.expression_lang.specs.View.{picked_at}
use Rattle.expression_lang.specs.Sort.{Scalar, Kind, WordKind, NatKind, IntKind, BoolKind, sort_of, is_truth}
use Rattle.expression_lang.specs.Sorted.{names_with, program_sort}
use Rattle.expression_lang.specs.Signature.{bound}
use Rattle.expression_lang.proofs.SortParts.{program_sort_inv}
use Rattle.expression_lang.proofs.Inversion.{truth_inv}
use Rattle.ac_expr.specs.Fact.{Fact, Whole, NotTrue, AllSay}
use Rattle.ac_expr.specs.Passed.{without_names}
use Rattle.monad_lang.specs.Program as M
use Rattle.monad_lang.specs.Program.{Mon}
use Rattle.monad_lang.specs.Run.{Answer, Failure, runs, functions_below}
use Rattle.monad_lang.specs.Reach.{AtEach, IfTrue, IfFalse}
use Rattle.monad_lang.specs.Sorted.{scalars_given, are_scalars, one_for_each, IsWellFormed}
use Rattle.monad_lang.proofs.Given.{then_parts, fits_parts, given_there}
use Rattle.program_facts.proofs.FactsAfter.{without_names_hold}
use Rattle.triple_lang.specs.Deriv.{Ground, Names}
use Rattle.hoare_check.specs.DeriveTable.{setting, scope, behind, Asserts}
use Rattle.assertion_walks.specs.Put.{put}
use Rattle.hoare_check.specs.Accepted.{IsFine, Begins, Meets, IsDerived}
use Rattle.hoare_check.proofs.PutValues.{put_value}
use Rattle.hoare_check.proofs.Naming.{as_many}
use Rattle.hoare_check.proofs.Claims.{Fits, IsShown}
use Rattle.hoare_check.proofs.Begun.{shown_there, ended, begins_there}

-- an assertion is a truth value
pub asserted_sort : (k : Ground) (ns : Names) (e : Exp) → Asserts k ns e → is_truth (sort_of (scope k ns) e) ≡ true
asserted_sort k ns e h = (and_parts (is_truth (sort_of (scope k ns) e)) _ h).0

pub program_truth : (k : Ground) (ns : Names) (e : Exp) → is_truth (program_sort (scope k ns) e) ≡ true → is_truth (sort_of (scope k ns) e) ≡ true
program_truth k ns e h = ap is_truth (program_sort_inv (scope k ns) e _ (truth_inv (program_sort (scope k ns) e) h))

-- no value has no name
pub without_values : (xs : List Name) (cs : List Scalar) → one_for_each xs cs ≡ true → [] ≡ cs → xs ≡ []
without_values [] cs h e = refl
without_values (x ∷ xs) [] h e = absurd (as_many {A = Scalar} (x ∷ xs) [] h)
without_values (x ∷ xs) (c ∷ cs) h e = absurd cc

-- what a guard and a choice do

guard_passes : (b : Bool) (a : Answer) → b ≡ true → choose {F = Failure} b (done a) (fault tt) (Failed tt) → ⊥
guard_passes true a h r = r
guard_passes false a h r = absurd (true≢false (sym h))

guard_gives : (b : Bool) (a c : Answer) → choose {F = Failure} b (done a) (fault tt) (Done c) → c ≡ a
guard_gives true a c r = r
guard_gives false a c r = absurd r

never_fails : (p : Choice) (k : Kind) → picked_at {F = Failure} p k (Failed tt) → ⊥
never_fails Any (WordKind n) (goes_on h r) = r
never_fails Any (WordKind n) (fails h) = h
never_fails (Fill m) (WordKind n) (goes_on h r) = r
never_fails (Fill m) (WordKind n) (fails h) = h
never_fails Any (NatKind n) (goes_on h r) = r
never_fails Any (NatKind n) (fails h) = h
never_fails (Fill m) (NatKind n) (goes_on h r) = r
never_fails (Fill m) (NatKind n) (fails h) = h
never_fails Any (IntKind n) (goes_on h r) = r
never_fails Any (IntKind n) (fails h) = h
never_fails (Fill m) (IntKind n) (goes_on h r) = r
never_fails (Fill m) (IntKind n) (fails h) = h
never_fails Any BoolKind h = h
never_fails (Fill m) BoolKind h = h

module _ (k : Ground) (formed : IsWellFormed k.unit) (p : Choice) (n : ℕ) (ns : Names) (fs : List Fact) (xs : List Name)
    (q : Exp) where
  abbrev Derived : Mon → Type 0
  Derived m = IsDerived k p n ns fs m xs q

  -- q holds without a name
  no_names : (env : Env) (s : State) → xs ≡ [] → holds k.unit.layout env s q ≡ true → holds k.unit.layout (bound xs [] env) s q ≡ true
  no_names env s e h = subst (λ ys. holds k.unit.layout (bound ys [] env) s q ≡ true) (sym e) h

  pub ret_holds : (e : Exp) (es : List Exp) → Asserts k ns e → e ≡ put xs es q → IsShown k ns fs e → are_distinct xs ≡ true → Derived (M.Ret es)
  ret_holds e es asserts is shown distinct env depth s b each =
      let holds_e = shown_there k formed ns fs e shown (asserted_sort k ns e asserts) env s b in
      record {
        lasts = λ r. r;
        gives = λ a r.
            subst (λ c. holds k.unit.layout (bound xs c.values env) c.state q ≡ true) (sym r)
            (ap truth_in (sym (ap (λ d. value k.unit.layout env s d) is ∙ put_value k.unit.layout env s xs es q distinct)) ∙ holds_e);
      }

  pub guard_holds : (e : Exp) → IsShown k ns fs e → IsShown k ns (Whole e ∷ fs) q → Fits k ns (M.Guard e) xs q → Derived (M.Guard e)
  guard_holds e first then fit env depth s b each =
      let f = fits_parts (is_truth (program_sort (scope k ns) e)) (Some []) fit.given fit.sorted in
      let none : xs ≡ [] = without_values xs fit.given fit.one_each (some_is f.1) in
      let here = shown_there k formed ns fs e first (program_truth k ns e f.0) env s b in
      let truth = asserted_sort k (names_with xs fit.given ns) q fit.asserts in
      let sorted : is_truth (sort_of (scope k ns) q) ≡ true = subst (λ ys. is_truth (sort_of (scope k (names_with ys fit.given ns)) q) ≡ true) none truth in
      let after = shown_there k formed ns (Whole e ∷ fs) q then sorted env s
      (record { environment = b.environment; heap = b.heap; globals = b.globals; facts = (here, b.facts) }) in
      record {
        lasts = λ r. guard_passes (holds k.unit.layout env s e) _ here r;
        gives =
            λ a r. subst (λ c. holds k.unit.layout (bound xs c.values env) c.state q ≡ true) (sym (guard_gives (holds k.unit.layout env s e) _ a r))
            (no_names env s none after);
      }

  -- what a choice is made of
  pub choice_fits : (e : Exp) (m m' : Mon) → Fits k ns (M.If e m m') xs q → Fits k ns m xs q × Fits k ns m' xs q
  choice_fits e m m' fit =
      let o = then_parts (scalars_given (setting k ns) m) _ fit.given fit.sorted in
      let f = fits_parts (is_truth (program_sort (scope k ns) e) && are_scalars o.0 (scalars_given (setting k ns) m')) (Some o.0) fit.given o.2 in
      let i = and_parts (is_truth (program_sort (scope k ns) e)) (are_scalars o.0 (scalars_given (setting k ns) m')) f.0 in
      let same = some_is f.1 in (
        record {
          given = fit.given;
          sorted = o.1 ∙ ap (λ cs. Some cs) same;
          one_each = fit.one_each;
          distinct = fit.distinct;
          asserts = fit.asserts;
          calls = λ c. (and_parts _ _ (fit.calls c)).0;
        },
        record {
          given = fit.given;
          sorted = given_there o.0 (scalars_given (setting k ns) m') i.1 ∙ ap (λ cs. Some cs) same;
          one_each = fit.one_each;
          distinct = fit.distinct;
          asserts = fit.asserts;
          calls = λ c. (and_parts _ _ (fit.calls c)).1;
        },
      )

  pub choice_holds : (e : Exp) (m m' : Mon) → IsDerived k p n ns (Whole e ∷ fs) m xs q → IsDerived k p n ns (NotTrue e ∷ fs) m' xs q → Derived (M.If e m m')
  choice_holds e m m' first second env depth s b each =
      by_test (holds k.unit.layout env s e) refl each.0 each.1
    where
      with_fact : (f : Fact) → AllSay k.unit.layout env s (f ∷ []) → Begins k ns (f ∷ fs) env s
      with_fact f h = record { environment = b.environment; heap = b.heap; globals = b.globals; facts = (h.0, b.facts) }

      by_test : (t : Bool) → holds k.unit.layout env s e ≡ t → IfTrue t (AtEach k.unit.layout p (IsFine k.unit) m env depth (functions_below k.unit p n) s) →
          IfFalse t (AtEach k.unit.layout p (IsFine k.unit) m' env depth (functions_below k.unit p n) s) → Meets k p n (M.If e m m') xs q env depth s
      by_test true h i j =
          let d = first env depth s (with_fact (Whole e) (h, tt)) i in
          record {
            lasts =
                λ r. d.lasts (subst (λ t. choose t (runs k.unit.layout p m env depth (functions_below k.unit p n) s)
                (runs k.unit.layout p m' env depth (functions_below k.unit p n) s) (Failed tt)) h r);
            gives =
                λ a r. d.gives a (subst (λ t. choose t (runs k.unit.layout p m env depth (functions_below k.unit p n) s)
                (runs k.unit.layout p m' env depth (functions_below k.unit p n) s) (Done a)) h r);
          }
      by_test false h i j =
          let d = second env depth s (with_fact (NotTrue e) (ap not h, tt)) j in
          record {
            lasts =
                λ r. d.lasts (subst (λ t. choose t (runs k.unit.layout p m env depth (functions_below k.unit p n) s)
                (runs k.unit.layout p m' env depth (functions_below k.unit p n) s) (Failed tt)) h r);
            gives =
                λ a r. d.gives a (subst (λ t. choose t (runs k.unit.layout p m env depth (functions_below k.unit p n) s)
                (runs k.unit.layout p m' env depth (functions_below k.unit p n) s) (Done a)) h r);
          }

  pub pick_holds : (kind : Kind) → IsShown k (behind k (M.Pick kind) xs ns) (without_names xs fs) q → Fits k ns (M.Pick kind) xs q → Derived (M.Pick kind)
  pick_holds kind shown fit env depth s b each =
      record { lasts = λ r. no_fault r; gives = λ a r. after a r (same_state a r) }
    where
      no_fault : runs k.unit.layout p (M.Pick kind) env depth (functions_below k.unit p n) s (Failed tt) → ⊥
      no_fault (goes_on h r) = r
      no_fault (fails h) = never_fails p kind h

      same_state : (a : Answer) → runs k.unit.layout p (M.Pick kind) env depth (functions_below k.unit p n) s (Done a) → a.state ≡ s
      same_state a (goes_on h r) = ap (λ c. c.state) r

      scoped : behind k (M.Pick kind) xs ns ≡ names_with xs fit.given ns
      scoped = ap (λ o. names_with xs (unwrap_or o []) ns) fit.sorted

      after : (a : Answer) → runs k.unit.layout p (M.Pick kind) env depth (functions_below k.unit p n) s (Done a) → a.state ≡ s → holds k.unit.layout
          (bound xs a.values env) a.state q ≡ true
      after a r e =
          let many = as_many xs fit.given fit.one_each in
          let end = ended k formed p n ns fs (M.Pick kind) xs fit.given fit.sorted many env depth s b a r in
          let said = subst (λ c. AllSay k.unit.layout (bound xs a.values env) c (without_names xs fs)) (sym e)
          (without_names_hold k.unit.layout xs a.values env s fs b.facts) in
          shown_there k formed (names_with xs fit.given ns) (without_names xs fs) q (subst (λ ms. IsShown k ms (without_names xs fs) q) scoped shown)
          (asserted_sort k (names_with xs fit.given ns) q fit.asserts) (bound xs a.values env) a.state
          (begins_there k formed ns xs fit.given env s a end (without_names xs fs) said)
