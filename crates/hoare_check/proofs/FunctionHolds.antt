-- An accepted triple holds at a bound below which all triples do.
use Rattle.std.proofs.Common.{◌≡◌, ℕ, ◌<◌, Bool, true, false, not, ◌&&◌, List, [], ◌∷◌, ◌++◌, map, Option, Some, refl, sym, ap, ◌∙◌, subst, if◌then◌else◌}
use Rattle.std.specs.Option.{is_some}
use Rattle.std.proofs.lemmas.Bool.{and_parts}
use Rattle.correspondence.specs.Outcome.{Outcome, Ends, Done, Failed}
use Rattle.c_values.specs.Name.{Name, are_distinct}
use Rattle.c_values.specs.Value.{Value, truth_in}
use Rattle.c_values.specs.Layout.{global_type}
use Rattle.c_values.specs.Choice.{Choice}
use Rattle.c_values.proofs.Options.{some_is}
use Rattle.c_memory.specs.Heap.{OnTypes, IsHeap}
use Rattle.c_memory.specs.TypedHeap.{view}
use Rattle.expression_lang.specs.Evaluation.{Env, State, holds}
use Rattle.expression_lang.specs.Form.{has, is_load, is_read}
use Rattle.expression_lang.specs.Sort.{Scope, Scalar, is_truth, sort_of, sort_of_kind, is_lifted}
use Rattle.expression_lang.specs.Sorted.{names_with, scope_with}
use Rattle.expression_lang.specs.Signature.{names_of, kinds_of, bound, no_env}
use Rattle.expression_lang.specs.States.{AreGlobals, IsEnvironment, IsOfSort, state_with}
use Rattle.expression_lang.specs.View.{AreOfKinds}
use Rattle.ac_expr.specs.Fact.{Whole}
use Rattle.monad_lang.specs.Program.{Mon, FinalFn, FinalUnit, final_fn}
use Rattle.monad_lang.specs.Run.{Answer, Failure, runs, functions_below, program_runs}
use Rattle.monad_lang.specs.Reach.{AtEach}
use Rattle.monad_lang.specs.Steady.{WriteCovered, CallInRange}
use Rattle.monad_lang.specs.Sorted.{scalars_given, IsWellFormed}
use Rattle.monad_lang.proofs.AgreeingSorts.{sort_agrees}
use Rattle.program_facts.proofs.SortedValues.{bound_sorted}
use Rattle.exactness.specs.SteadyUnits.{IsUnitSteady, begins}
use Rattle.rule_trees.specs.RuleTree.{Accepts}
use Rattle.exactness.specs.Triple.{Assertions, AreAssertions, AreLogicals, MeetsBefore, MeetsAfter, IsHeapFor, logical_names, logical_sorts, result_names, global_scope}
use Rattle.triple_lang.specs.Deriv.{Ground, Names, derived}
use Rattle.hoare_check.specs.DeriveTable.{setting, scope, table, Asserts}
use Rattle.triple_lang.specs.Triple.{Triple}
use Rattle.hoare_check.specs.Accepted.{ground, names_before, IsAccepted, HoldsAt, AllHoldAt, HoldBelow, IsFine, Begins, Meets}
use Rattle.hoare_check.proofs.Naming.{AsMany, as_many}
use Rattle.hoare_check.proofs.JoinedNames.{known_name, either_order, distinct_second}
use Rattle.rule_local.proofs.InScope.{exp_in_scope}
use Rattle.hoare_check.proofs.KnownNames.{known_value}
use Rattle.hoare_check.proofs.KnownPrograms.{given_wider}
use Rattle.hoare_check.proofs.KeepsHeaps.{heap_of}
use Rattle.hoare_check.proofs.KindSorts.{kinds_sorted}
use Rattle.hoare_check.proofs.Results.{result_bound, results_distinct, arguments_many, logicals_many, logicals_sorted, sorts_joined}
use Rattle.hoare_check.proofs.FunctionSorts.{found_sorted, BodySorted, body_sorted, one_result_each, one_result_name, kinds_many, logical_sorts_many, sorted_some}
use Rattle.hoare_check.proofs.Triples.{AreTriples, found_name, body_run}
use Rattle.hoare_check.proofs.Claims.{Fits}
use Rattle.hoare_check.proofs.Begun.{ended}
use Rattle.hoare_check.proofs.AlikeValues.{AreAlike}
use Rattle.hoare_check.proofs.AlikeRuns.{runs_there}
use Rattle.hoare_check.proofs.AlikeReach.{reaches_there}
use Rattle.hoare_check.proofs.WriteRows.{cells_of}
use Rattle.hoare_check.proofs.ViewedHeaps.{heap_is_viewed}
use Rattle.hoare_check.proofs.FineWrites.{covered_fine, in_range_fine, bytes_write_no_object}
use Rattle.hoare_check.proofs.TripleScopes.{nowhere, first_known, others_first, first_values, others_values}
use Rattle.hoare_check.proofs.Derived.{derived_holds}

-- a triple of the function, accepted
pub record AcceptedOf (u : FinalUnit) (ts : List Triple) (f : FinalFn) (t : Triple) : Type 0 where
  pub assertions : AreAssertions u f t.assertions
  pub derivation : Accepts (table (ground u ts f)) t.derivation
      (derived (names_before f t.assertions) (Whole t.assertions.before ∷ []) f.body (result_names f.results) t.assertions.after)

-- One run, from where the precondition is met
module _ (u : FinalUnit) (ts : List Triple) (formed : IsWellFormed u) (steady : IsUnitSteady u)
    (triples : AreTriples u (map (λ t. t.assertions) ts))
    (p : Choice) (n : ℕ) (f : FinalFn) (x : Name) (found : final_fn u.functions x ≡ Some f) (d : Triple) (accepted : AcceptedOf u ts f d)
    (below : HoldBelow (ground u ts f) p n)
    (depth : Option ℕ) (s : State) (logicals arguments : List Value) (heap : IsHeapFor u.layout (is_lifted f.level) s.heap)
    (globals : AreGlobals u.layout u.globals s.globals)
    (are : AreLogicals d.assertions.logicals logicals) (kinds : AreOfKinds (kinds_of f.params) arguments)
    (before : MeetsBefore u.layout d.assertions (names_of f.params) arguments logicals s) where
  abbrev k : Ground
  k = ground u ts f

  abbrev t : Assertions
  t = d.assertions

  abbrev params : List Name
  params = names_of f.params

  abbrev extra : List Name
  extra = logical_names t.logicals

  abbrev results : List Name
  results = result_names f.results

  abbrev param_sorts : List Scalar
  param_sorts = map sort_of_kind (kinds_of f.params)

  abbrev result_sorts : List Scalar
  result_sorts = map sort_of_kind f.results

  abbrev extra_sorts : List Scalar
  extra_sorts = logical_sorts t.logicals

  -- the function's own names, and those with the logical variables
  abbrev own : Names
  own = names_with params param_sorts nowhere

  abbrev all : Names
  all = names_before f t

  abbrev begun : Env
  begun = begins f arguments

  abbrev with_logicals : Env
  with_logicals = bound (params ++ extra) (arguments ++ logicals) no_env

  body : BodySorted u f
  body = body_sorted u f (found_sorted u u.functions x f formed.functions found)

  many_arguments : AsMany params arguments
  many_arguments = arguments_many f.params arguments kinds

  many_logicals : AsMany extra logicals
  many_logicals = logicals_many t.logicals logicals are

  distinct : are_distinct (params ++ extra) ≡ true
  distinct = accepted.assertions.names

  after_distinct : are_distinct (results ++ extra) ≡ true
  after_distinct = results_distinct f.results extra accepted.assertions.no_result (distinct_second params extra distinct)

  -- what the postcondition's scope is
  abbrev scope_after : Scope
  scope_after = scope_with (results ++ extra) (result_sorts ++ extra_sorts) (global_scope u)

  abbrev scope_before : Scope
  scope_before = scope_with (params ++ extra) (param_sorts ++ extra_sorts) (global_scope u)

  many_results : AsMany results result_sorts
  many_results = as_many results result_sorts (one_result_each f.results body.few)

  after_known : is_some (sort_of scope_after t.after) ≡ true
  after_known = sorted_some (sort_of scope_after t.after) (and_parts (is_truth (sort_of scope_after t.after)) _ accepted.assertions.after_sorted).0

  after_asserts : Asserts k (names_with results result_sorts all) t.after
  after_asserts =
      subst (λ o. (is_truth o && not (has (if is_lifted f.level then is_load else is_read) t.after)) ≡ true)
      (sort_agrees u.layout (global_type u.globals) (names_with (results ++ extra) (result_sorts ++ extra_sorts) nowhere)
      (names_with results result_sorts all) t.after
      (λ y h. others_first results extra result_sorts extra_sorts after_distinct many_results (logical_sorts_many t.logicals) params param_sorts
      (kinds_many f.params) y
      (exp_in_scope scope_after y t.after after_known h)))
      accepted.assertions.after_sorted

  body_given : scalars_given (setting k all) f.body ≡ Some result_sorts
  body_given =
      given_wider k f.body own all (first_known params extra param_sorts extra_sorts distinct (kinds_many f.params)
      (logical_sorts_many t.logicals)) result_sorts body.gives

  fits : Fits k all f.body results t.after
  fits = record {
    given = result_sorts;
    sorted = body_given;
    one_each = one_result_each f.results body.few;
    distinct = one_result_name f.results;
    asserts = after_asserts;
    calls = (steady x f found).calls;
  }

  -- where it begins

  before_holds : holds u.layout with_logicals s t.before ≡ true
  before_holds =
      let known = sorted_some (sort_of scope_before t.before) (and_parts (is_truth (sort_of scope_before t.before)) _ accepted.assertions.before_sorted).0 in
      ap truth_in (known_value scope_before with_logicals (bound params arguments (bound extra logicals no_env)) s
      (λ y h. either_order params extra arguments logicals no_env distinct many_arguments many_logicals y
      (known_name y (params ++ extra) (param_sorts ++ extra_sorts) h)) t.before known)
      ∙ before

  all_sorted : IsEnvironment (scope k all) with_logicals
  all_sorted =
      bound_sorted (scope k nowhere) (params ++ extra) (param_sorts ++ extra_sorts) (arguments ++ logicals) no_env
      (sorts_joined param_sorts extra_sorts arguments logicals (kinds_sorted (kinds_of f.params) arguments kinds) (logicals_sorted t.logicals logicals are))
      (λ y c e. absurd cc)

  begins_derived : Begins k all (Whole t.before ∷ []) with_logicals s
  begins_derived = record { environment = all_sorted; heap = heap; globals = globals; facts = (before_holds, tt) }

  same_values : (y : Name) → is_some (own y) ≡ true → begun y ≡ with_logicals y
  same_values y h = first_values params extra distinct arguments logicals many_arguments many_logicals y (known_name y params param_sorts h)

  own_sorted : IsEnvironment (scope k own) begun
  own_sorted = bound_sorted (scope k nowhere) params param_sorts arguments no_env (kinds_sorted (kinds_of f.params) arguments kinds) (λ y c e. absurd cc)

  alike : AreAlike k own begun with_logicals s
  alike = record {
    left = record { environment = own_sorted; heap = heap; globals = globals; facts = tt };
    right =
        record {
          environment = λ y c h. subst (λ v. IsOfSort c v) (same_values y (ap is_some h))
              (own_sorted y c h);
          heap = heap;
          globals = globals;
          facts = tt;
        };
    same = same_values;
  }

  -- what it reaches

  abbrev Reaches : (Mon → Env → State → Type 0) → Env → State → Type 0
  Reaches P env r = AtEach u.layout p P f.body env depth (functions_below u p n) r

  in_range : Reaches (CallInRange u) begun s
  in_range = (steady x f found).in_range p n depth arguments s kinds (record { heap = (heap_of u.layout (is_lifted f.level) s.heap heap).1; globals = globals })

  covered : is_lifted f.level ≡ true → Reaches (WriteCovered u.layout) begun s
  covered lifted =
      let cells = cells_of u.layout (is_lifted f.level) s.heap lifted heap in
      let seen = heap_is_viewed u.layout formed.layout cells.0 (subst (λ h. IsHeap u.layout h) cells.1 (heap_of u.layout (is_lifted f.level) s.heap heap).1) in
      let there : state_with (OnTypes (view u.layout seen.memory)) s.globals ≡ s = ap (λ h. state_with h s.globals)
      (ap (λ cs. OnTypes cs) seen.is ∙ sym cells.1) in
      subst (λ r. Reaches (WriteCovered u.layout) begun r) there
      ((steady x f found).steady lifted p n depth arguments seen.memory s.globals kinds (record { heap = seen.tagged; globals = globals })).covered_on_types

  fine : (b : Bool) → is_lifted f.level ≡ b → Reaches (IsFine u) begun s
  fine true e = covered_fine u p depth f.body begun (functions_below u p n) s (covered e) in_range
  fine false e =
      in_range_fine u p depth f.body begun (functions_below u p n) s
      (bytes_write_no_object k e d.derivation all (Whole t.before ∷ []) f.body results t.after accepted.derivation) in_range

  meets : Meets k p n f.body results t.after with_logicals depth s
  meets =
      derived_holds k p formed steady triples d.derivation all
      (Whole t.before ∷ []) f.body results t.after accepted.derivation fits n below with_logicals depth s begins_derived
      (reaches_there k formed p depth f.body own result_sorts body.gives n begun with_logicals s alike (fine (is_lifted f.level) refl))

  abbrev body_runs : Env → Ends Answer Failure
  body_runs env = runs u.layout p f.body env depth (functions_below u p n) s

  there : (o : Outcome Answer Failure) → body_runs begun o → body_runs with_logicals o
  there o r = runs_there k formed p depth f.body own result_sorts body.gives n begun with_logicals s alike o r

  gives : (a : Answer) → body_runs with_logicals (Done a) → MeetsAfter u.layout t a.values logicals a.state
  gives a r =
      let end = ended k formed p n all (Whole t.before ∷ []) f.body results result_sorts body_given many_results with_logicals depth s begins_derived a r in
      ap (λ e. holds u.layout e a.state t.after) (result_bound f.results a.values (bound extra logicals no_env) end.many)
      ∙ sym (ap truth_in (known_value scope_after (bound results a.values with_logicals) (bound results a.values (bound extra logicals no_env)) a.state
      (λ y h. others_values results extra after_distinct a.values logicals end.many many_logicals params arguments many_arguments y
      (known_name y (results ++ extra) (result_sorts ++ extra_sorts) h))
      t.after after_known))
      ∙ meets.gives a r

  pub run_meets : (program_runs u p n depth (record { name = f.name; arguments = arguments; state = s }) (Failed tt) → ⊥)
      × ((a : Answer) → program_runs u p n depth (record { name = f.name; arguments = arguments; state = s }) (Done a) →
      MeetsAfter u.layout t a.values logicals a.state)
  run_meets =
      let named = ap (λ y. final_fn u.functions y) (found_name u.functions x f found) ∙ found in (
        λ r. meets.lasts (there (Failed tt) (body_run u p n f f.name named depth arguments s (Failed tt) r)),
        λ a r. gives a (there (Done a) (body_run u p n f f.name named depth arguments s (Done a) r)),
      )

-- an accepted triple holds at a bound below which all triples do
pub accepted_holds_at : (u : FinalUnit) (ts : List Triple) → IsWellFormed u → IsUnitSteady u → AreTriples u (map (λ t. t.assertions) ts) →
    (p : Choice) (n : ℕ) →
    ((i : ℕ) → i < n → AllHoldAt u p i (map (λ t. t.assertions) ts)) → (t : Triple) → IsAccepted u ts t → HoldsAt u p n t.assertions
accepted_holds_at u ts formed steady triples p n below t h = record { holds_at = at }
  where
    at : (f : FinalFn) → final_fn u.functions t.assertions.function ≡ Some f → (depth : Option ℕ) (s : State) (logicals arguments : List Value) →
        IsHeapFor u.layout (is_lifted f.level) s.heap → AreGlobals u.layout u.globals s.globals → AreLogicals t.assertions.logicals logicals →
        AreOfKinds (kinds_of f.params) arguments → MeetsBefore u.layout t.assertions (names_of f.params) arguments logicals s →
        (program_runs u p n depth (record { name = f.name; arguments = arguments; state = s }) (Failed tt) → ⊥)
        × ((a : Answer) → program_runs u p n depth (record { name = f.name; arguments = arguments; state = s }) (Done a) →
        MeetsAfter u.layout t.assertions a.values logicals a.state)
    at f found depth s logicals arguments heap globals are kinds before =
        let same : h.function ≡ f = some_is (sym h.found ∙ found) in
        let accepted = subst (λ g. AcceptedOf u ts g t) same (record { assertions = h.assertions; derivation = h.derivation }) in
        run_meets u ts formed steady triples p n f t.assertions.function found t accepted below depth s logicals arguments heap globals are kinds before
