-- The rule of calls: the callee's triple holds at each smaller bound.
use Rattle.std.proofs.Common.{◌≡◌, ℕ, ◌<◌, Bool, true, false, not, ◌&&◌, List, ◌∷◌, ◌++◌, map, Option, Some, None, refl, sym, ap, ap₂, ◌∙◌, subst, if◌then◌else◌}
use Rattle.std.proofs.lemmas.Bool.{and_parts, not-true}
use Rattle.correspondence.specs.Outcome.{Done, Failed}
use Rattle.c_values.specs.Name.{Name}
use Rattle.c_values.specs.Value.{Value, truth_in}
use Rattle.c_values.specs.Choice.{Choice}
use Rattle.c_values.proofs.Options.{some_is}
use Rattle.expression_lang.specs.Expression.{Exp}
use Rattle.expression_lang.specs.Evaluation.{Env, State, value, holds}
use Rattle.expression_lang.specs.Form.{has, is_load, is_read}
use Rattle.expression_lang.specs.Sort.{Scope, is_truth, sort_of, sort_of_kind, is_lifted}
use Rattle.expression_lang.specs.Sorted.{names_with, scope_with}
use Rattle.expression_lang.specs.Signature.{Invocation, names_of, kinds_of, values_of, bound, no_env}
use Rattle.expression_lang.specs.View.{AreOfKinds}
use Rattle.ac_expr.specs.Fact.{Fact, Whole}
use Rattle.ac_expr.specs.Facts.{without_reads}
use Rattle.ac_expr.specs.Passed.{without_names}
use Rattle.monad_lang.specs.Program as M
use Rattle.monad_lang.specs.Program.{Mon, FinalFn, final_fn}
use Rattle.monad_lang.specs.Run.{Answer, runs, functions_below, program_runs}
use Rattle.monad_lang.specs.Steady.{TakesThem}
use Rattle.monad_lang.specs.Sorted.{signature_of, IsWellFormed}
use Rattle.program_facts.proofs.FactsAfter.{without_names_hold, without_reads_hold}
use Rattle.program_facts.proofs.RunsLast.{formed_units_last}
use Rattle.exactness.specs.SteadyUnits.{IsUnitSteady, is_on_typed_heaps}
use Rattle.exactness.specs.Triple.{Assertions, AreAssertions, AreLogicals, MeetsBefore, MeetsAfter, logical_names, logical_sorts, result_names, global_scope}
use Rattle.triple_lang.specs.Deriv.{Ground, Names}
use Rattle.hoare_check.specs.DeriveTable.{scope, behind, variables, triple_at, IsCall, Calls}
use Rattle.hoare_check.specs.Accepted.{HoldsAt, HoldBelow, Begins, Meets, IsDerived}
use Rattle.hoare_check.proofs.PutValues.{put_value}
use Rattle.hoare_check.proofs.Naming.{AsMany, as_many}
use Rattle.hoare_check.proofs.JoinedNames.{known_name, either_order, values_joined, distinct_second}
use Rattle.hoare_check.proofs.KnownNames.{known_value}
use Rattle.hoare_check.proofs.ViewedValues.{viewed_value}
use Rattle.hoare_check.proofs.LoopStarts.{named_values}
use Rattle.hoare_check.proofs.KindSorts.{kinds_sorted}
use Rattle.hoare_check.proofs.Results.{results_many, result_bound, results_distinct, arguments_many, logicals_many, logicals_are, logicals_stay}
use Rattle.hoare_check.proofs.Triples.{IsTriple, AreTriples, triple_there, triple_holds, found_signature, body_run}
use Rattle.hoare_check.proofs.CallsBelow.{stopped_never_fails, answered_below}
use Rattle.hoare_check.proofs.FunctionSorts.{sorted_some}
use Rattle.hoare_check.proofs.Callee.{IsOnBoth, callee_meets}
use Rattle.hoare_check.proofs.Claims.{Fits, IsShown}
use Rattle.hoare_check.proofs.Begun.{Ended, state_of, shown_there, ended, begins_there}
use Rattle.hoare_check.proofs.PlainRows.{asserted_sort}
use Rattle.hoare_check.proofs.BindRow.{scoped_behind}

no_reads : (lifted truth : Bool) (e : Exp) → (truth && not (has (if lifted then is_load else is_read) e)) ≡ true → lifted ≡ false → has is_read e ≡ false
no_reads false truth e h i = not-true (has is_read e) (and_parts truth (not (has is_read e)) h).1
no_reads true truth e h i = absurd cc

no_loads : (lifted truth : Bool) (e : Exp) → (truth && not (has (if lifted then is_load else is_read) e)) ≡ true → lifted ≡ true → has is_load e ≡ false
no_loads true truth e h i = not-true (has is_load e) (and_parts truth (not (has is_load e)) h).1
no_loads false truth e h i = absurd cc

-- One call, of a triple
module _ (k : Ground) (formed : IsWellFormed k.unit) (steady : IsUnitSteady k.unit) (p : Choice) (n : ℕ) (ns : Names)
    (fs : List Fact)
    (g : Name) (es : List Exp) (xs : List Name) (q : Exp) (ls : List Exp) (before after : Exp) (t : Assertions) (f : FinalFn)
    (c : IsCall k ns t f g es xs ls before after)
    (is : IsTriple k.unit t) (holds_below : (i : ℕ) → i < n → HoldsAt k.unit p i t) (shown : IsShown k ns fs before) (fit : Fits k ns (M.Call g es) xs q)
    (env : Env) (depth : Option ℕ) (s : State) (b : Begins k ns fs env s)
    (takes : TakesThem (final_fn k.unit.functions g) (values_of k.unit.layout env s es)) where
  abbrev params : List Name
  params = names_of f.params

  abbrev logicals : List Name
  logicals = logical_names t.logicals

  abbrev arguments : List Value
  arguments = values_of k.unit.layout env s es

  abbrev logical_values : List Value
  logical_values = values_of k.unit.layout env s ls

  found : final_fn k.unit.functions t.function ≡ Some f
  found = ap (λ x. final_fn k.unit.functions x) c.function ∙ c.found

  assertions : AreAssertions k.unit f t
  assertions = subst (λ d. AreAssertions k.unit d t) (some_is (sym is.found ∙ found)) is.assertions

  kinds : AreOfKinds (kinds_of f.params) arguments
  kinds = subst (λ o. TakesThem o arguments) c.found takes

  are : AreLogicals t.logicals logical_values
  are = logicals_are (scope k ns) formed.layout k.unit.globals refl env b.environment s (state_of k formed ns fs env s b) xs t.logicals ls c.logicals

  -- the precondition of the arguments and the logical values
  abbrev scope_before : Scope
  scope_before = scope_with (params ++ logicals) (map sort_of_kind (kinds_of f.params) ++ logical_sorts t.logicals) (global_scope k.unit)

  before_meets : MeetsBefore k.unit.layout t params arguments logical_values s
  before_meets =
      let here = shown_there k formed ns fs before shown (asserted_sort k ns before c.before_asserts) env s b in
      let known = sorted_some (sort_of scope_before t.before) (and_parts (is_truth (sort_of scope_before t.before)) _ assertions.before_sorted).0 in
      let order = either_order params logicals arguments logical_values env assertions.names (arguments_many f.params arguments kinds)
      (logicals_many t.logicals logical_values are) in
      let same = ap (λ d. value k.unit.layout env s d) c.before_is ∙ put_value k.unit.layout env s (params ++ logicals) (es ++ ls) t.before assertions.names
      ∙ ap (λ vs. value k.unit.layout (bound (params ++ logicals) vs env) s t.before) (values_joined k.unit.layout env s es ls)
      ∙ known_value scope_before (bound (params ++ logicals) (arguments ++ logical_values) env)
      (bound params arguments (bound logicals logical_values no_env)) s
      (λ y h. order y (known_name y (params ++ logicals) (map sort_of_kind (kinds_of f.params) ++ logical_sorts t.logicals) h)) t.before known in
      sym (ap truth_in same) ∙ here

  needs : k.lifted ≡ true → is_lifted f.level ≡ true
  needs h = subst (λ o. is_on_typed_heaps o ≡ true) c.found (fit.calls h)

  -- the postcondition of the result and the logical values
  abbrev results : List Name
  results = result_names f.results

  abbrev scope_after : Scope
  scope_after = scope_with (results ++ logicals) (map sort_of_kind f.results ++ logical_sorts t.logicals) (global_scope k.unit)

  -- for a caller on bytes of a callee on typed heaps
  on_both : k.lifted ≡ false → is_lifted f.level ≡ true → IsOnBoth k.unit.layout t.before × IsOnBoth k.unit.layout t.after
  on_both bytes lifted =
      let before_unread = no_reads k.lifted (is_truth (sort_of (scope k ns) before)) before c.before_asserts bytes in
      let after_unread = no_reads k.lifted (is_truth (sort_of (scope k (behind k (M.Call g es) xs ns)) after)) after c.after_asserts bytes in
      let before_unloaded = no_loads (is_lifted f.level) (is_truth (sort_of scope_before t.before)) t.before assertions.before_sorted lifted in
      let after_unloaded = no_loads (is_lifted f.level) (is_truth (sort_of scope_after t.after)) t.after assertions.after_sorted lifted in (
        λ e r r' tags globals. ap truth_in (viewed_value k.unit.layout e r r' tags globals (params ++ logicals) (es ++ ls) t.before
            (subst (λ d. has is_read d ≡ false) c.before_is before_unread) before_unloaded),
        λ e r r' tags globals. ap truth_in (viewed_value k.unit.layout e r r' tags globals (results ++ logicals) (variables xs ++ ls) t.after
            (subst (λ d. has is_read d ≡ false) c.after_is after_unread) after_unloaded),
      )

  abbrev call : Invocation
  call = record { name = g; arguments = arguments; state = s }

  not_failed : (i : ℕ) → i < n → (d : Option ℕ) → program_runs k.unit p i d call (Failed tt) → ⊥
  not_failed i less d r =
      (callee_meets k.unit formed.layout p i f t found (holds_below i less) (steady g f c.found) d s logical_values arguments b.globals are kinds before_meets
      k.lifted b.heap needs on_both).0 (body_run k.unit p i f g c.found d arguments s (Failed tt) r)

  -- what an answer of the callee has
  record IsAnswer (a : Answer) : Type 0 where
    after_meets : MeetsAfter k.unit.layout t a.values logical_values a.state
    many : AsMany results a.values

  answered : (a : Answer) (i : ℕ) → i < n → (d : Option ℕ) → program_runs k.unit p i d call (Done a) → IsAnswer a
  answered a i less d r =
      let lasts = (formed_units_last k.unit formed).runs p i d call (signature_of f) (found_signature k.unit.functions g f c.found)
      (kinds_sorted (kinds_of f.params) arguments kinds) (state_of k formed ns fs env s b) a r in
      record {
        after_meets =
            (callee_meets k.unit formed.layout p i f t found (holds_below i less)
            (steady g f c.found) d s logical_values arguments b.globals are kinds before_meets
            k.lifted b.heap needs on_both).1 a (body_run k.unit p i f g c.found d arguments s (Done a) r);
        many = results_many f a.values lasts.values;
      }

  after_holds : (a : Answer) → IsAnswer a → Ended k ns xs fit.given env s a → holds k.unit.layout (bound xs a.values env) a.state after ≡ true
  after_holds a h e =
      let l = k.unit.layout in
      let there = bound xs a.values env in
      let distinct = results_distinct f.results logicals assertions.no_result (distinct_second params logicals assertions.names) in
      let known = sorted_some (sort_of scope_after t.after) (and_parts (is_truth (sort_of scope_after t.after)) _ assertions.after_sorted).0 in
      let order = either_order results logicals a.values logical_values there distinct h.many (logicals_many t.logicals logical_values are) in
      let given = values_joined l there a.state (variables xs) ls
      ∙ ap₂ (λ vs ws. vs ++ ws) (named_values l a.state xs a.values env fit.distinct e.many)
      (logicals_stay (scope k ns) formed.layout k.unit.globals refl env b.environment s (state_of k formed ns fs env s b) xs a.values a.state e.tags
      (logical_sorts t.logicals) ls c.logicals) in
      let same = ap (λ d. value l there a.state d) c.after_is ∙ put_value l there a.state (results ++ logicals) (variables xs ++ ls) t.after distinct
      ∙ ap (λ vs. value l (bound (results ++ logicals) vs there) a.state t.after) given
      ∙ known_value scope_after (bound (results ++ logicals) (a.values ++ logical_values) there)
      (bound results a.values (bound logicals logical_values no_env)) a.state
      (λ y i. order y (known_name y (results ++ logicals) (map sort_of_kind f.results ++ logical_sorts t.logicals) i)) t.after known in
      ap truth_in same ∙ ap (λ r. holds l r a.state t.after) (sym (result_bound f.results a.values (bound logicals logical_values no_env) h.many))
      ∙ h.after_meets

  gives : IsShown k (behind k (M.Call g es) xs ns) (Whole after ∷ without_names xs (without_reads fs)) q → (a : Answer) →
      runs k.unit.layout p (M.Call g es) env depth (functions_below k.unit p n) s (Done a) → holds k.unit.layout (bound xs a.values env) a.state q ≡ true
  gives follows a r =
      let l = k.unit.layout in
      let facts = Whole after ∷ without_names xs (without_reads fs) in
      let end = ended k formed p n ns fs (M.Call g es) xs fit.given fit.sorted (as_many xs fit.given fit.one_each) env depth s b a r in
      let here = after_holds a (answered_below k p n depth call a (IsAnswer a) (answered a) r) end in
      let said = without_names_hold l xs a.values env a.state (without_reads fs) (without_reads_hold l env s a.state end.tags fs b.facts) in
      shown_there k formed (names_with xs fit.given ns) facts q
      (subst (λ ms. IsShown k ms facts q) (scoped_behind k ns (M.Call g es) xs fit.given fit.sorted) follows)
      (asserted_sort k (names_with xs fit.given ns) q fit.asserts) (bound xs a.values env) a.state
      (begins_there k formed ns xs fit.given env s a end facts (here, said))

  pub call_meets : IsShown k (behind k (M.Call g es) xs ns) (Whole after ∷ without_names xs (without_reads fs)) q → Meets k p n (M.Call g es) xs q env depth s
  call_meets follows = record { lasts = λ r. stopped_never_fails k p n depth call not_failed r; gives = λ a r. gives follows a r }

-- a call, of the triple at a position
module _ (k : Ground) (formed : IsWellFormed k.unit) (steady : IsUnitSteady k.unit) (triples : AreTriples k.unit k.triples)
    (p : Choice) (n : ℕ)
    (below : HoldBelow k p n) (ns : Names) (fs : List Fact) (g : Name) (es : List Exp) (xs : List Name) (q : Exp) where
  pub call_holds : (j : ℕ) (ls : List Exp) (before after : Exp) → Calls k ns (triple_at j k.triples) g es xs ls before after → IsShown k ns fs before →
      IsShown k (behind k (M.Call g es) xs ns) (Whole after ∷ without_names xs (without_reads fs)) q → Fits k ns (M.Call g es) xs q → IsDerived k p n ns fs
      (M.Call g es) xs q
  call_holds j ls before after calls shown follows fit = by_triple (triple_at j k.triples) refl calls
    where
      by_triple : (o : Option Assertions) → triple_at j k.triples ≡ o → Calls k ns o g es xs ls before after → IsDerived k p n ns fs (M.Call g es) xs q
      by_triple None e c = absurd c
      by_triple (Some t) e c = λ env depth s b each.
          call_meets k formed steady p n ns fs g es xs q ls before after t c.0 c.1 (triple_there k.unit j k.triples t e triples)
          (λ i less. triple_holds k.unit p i j k.triples t e (below i less)) shown fit env depth s b each.1 follows
