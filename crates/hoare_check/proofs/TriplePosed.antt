-- A triple's function and assertions are posed to the checker of derivations, and the names in scope before and after.
use Rattle.std.proofs.Common.{◌≡◌, true, false, ◌++◌, Bool, List, map, length, sym, subst, subst₂, ◌∙◌}
use Rattle.std.proofs.lemmas.Bool.{eqb-true}
use Rattle.c_values.specs.Name.{Name, is_among, are_distinct}
use Rattle.c_values.specs.Layout.{global_type}
use Rattle.expression_lang.specs.Expression.{Exp}
use Rattle.expression_lang.specs.Sort.{Scalar, Scope, sort_of, sort_of_kind, is_truth, is_lifted}
use Rattle.expression_lang.specs.Sorted.{names_with, scope_with}
use Rattle.expression_lang.specs.Signature.{names_of, kinds_of}
use Rattle.monad_lang.specs.Program.{FinalFn, FinalUnit}
use Rattle.monad_lang.specs.Sorted.{is_fn_sorted}
use Rattle.monad_lang.proofs.AgreeingSorts.{sort_agrees}
use Rattle.rule_local.proofs.InScope.{exp_in_scope}
use Rattle.entailment.proofs.Sorts.{assertion_sorted}
use Rattle.exactness.specs.Triple.{Assertions, AreAssertions, global_scope, logical_names, logical_sorts, result_name, result_names}
use Rattle.triple_lang.specs.Triple.{Triple}
use Rattle.triple_lang.specs.Deriv.{Ground, Names}
use Rattle.hoare_check.specs.DeriveTable.{scope, Asserts}
use Rattle.hoare_check.specs.Accepted.{ground, ground_with, names_before}
use Rattle.hoare_check.specs.CodeNames.{with_logicals, names_afterwards}
use Rattle.hoare_check.specs.CodePosed.{IsPosed}
use Rattle.hoare_check.proofs.Naming.{AsMany, as_many}
use Rattle.hoare_check.proofs.JoinedNames.{distinct_second}
use Rattle.hoare_check.proofs.Results.{results_distinct}
use Rattle.hoare_check.proofs.KnownPrograms.{given_wider}
use Rattle.hoare_check.proofs.FunctionSorts.{BodySorted, body_sorted, one_result_each, kinds_many, logical_sorts_many, sorted_some}
use Rattle.hoare_check.proofs.TripleScopes.{nowhere, names_joined, first_known, others_first}

module _ (u : FinalUnit) (ts : List Triple) (f : FinalFn) (t : Assertions) where
  abbrev k : Ground
  k = ground u ts f

  abbrev extra : List Name
  extra = logical_names t.logicals

  abbrev extra_sorts : List Scalar
  extra_sorts = logical_sorts t.logicals

  abbrev params : List Name
  params = names_of f.params

  abbrev param_sorts : List Scalar
  param_sorts = map sort_of_kind (kinds_of f.params)

  abbrev results : List Name
  results = result_names f.results

  abbrev result_sorts : List Scalar
  result_sorts = map sort_of_kind f.results

  -- the parameters, and then the logical variables
  pub before_is : names_before f t ≡ with_logicals t.logicals (names_with params param_sorts nowhere)
  before_is = names_joined params extra param_sorts extra_sorts nowhere (kinds_many f.params)

  -- the assertions are ones on the function's heaps
  module _ (lifted : Bool) (level : lifted ≡ is_lifted f.level) where
    abbrev pub AssertsHere : Names → Exp → Type 0
    AssertsHere ns e = Asserts (ground_with u lifted ts) ns e

    asserts_at : (ns : Names) (e : Exp) → AssertsHere ns e → Asserts k ns e
    asserts_at ns e h = subst (λ b. Asserts (ground_with u b ts) ns e) level h

    asserts_from : (ns : Names) (e : Exp) → Asserts k ns e → AssertsHere ns e
    asserts_from ns e h = subst (λ b. Asserts (ground_with u b ts) ns e) (sym level) h

    pub are_assertions : are_distinct (params ++ extra) ≡ true → is_among result_name extra ≡ false → AssertsHere (names_before f t) t.before →
        AssertsHere (names_afterwards f t) t.after → AreAssertions u f t
    are_assertions names no_result before after = record {
      names = names;
      no_result = no_result;
      before_sorted = asserts_at (names_before f t) t.before before;
      after_sorted = asserts_at (names_afterwards f t) t.after after;
    }

    pub precondition_asserts : AreAssertions u f t → AssertsHere (names_before f t) t.before
    precondition_asserts h = asserts_from (names_before f t) t.before h.before_sorted

    pub postcondition_asserts : AreAssertions u f t → AssertsHere (names_afterwards f t) t.after
    postcondition_asserts h = asserts_from (names_afterwards f t) t.after h.after_sorted

  module _ (sorted : is_fn_sorted u f ≡ true) where
    body : BodySorted u f
    body = body_sorted u f sorted

    many_results : AsMany results result_sorts
    many_results = as_many results result_sorts (one_result_each f.results body.few)

    -- the result, and then the logical variables
    pub after_is : names_afterwards f t ≡ with_logicals t.logicals (names_with results result_sorts nowhere)
    after_is = names_joined results extra result_sorts extra_sorts nowhere many_results

    module _ (asserted : AreAssertions u f t) where
      after_distinct : are_distinct (results ++ extra) ≡ true
      after_distinct = results_distinct f.results extra asserted.no_result (distinct_second params extra asserted.names)

      abbrev scope_after : Scope
      scope_after = scope_with (results ++ extra) (result_sorts ++ extra_sorts) (global_scope u)

      after_truth : is_truth (sort_of scope_after t.after) ≡ true
      after_truth = assertion_sorted scope_after (is_lifted f.level) t.after asserted.after_sorted

      truth_there : is_truth (sort_of (scope k (names_with results result_sorts (names_before f t))) t.after) ≡ true
      truth_there =
          subst (λ o. is_truth o ≡ true)
          (sort_agrees u.layout (global_type u.globals) (names_with (results ++ extra) (result_sorts ++ extra_sorts) nowhere)
          (names_with results result_sorts (names_before f t)) t.after
          (λ y h. others_first results extra result_sorts extra_sorts after_distinct many_results (logical_sorts_many t.logicals) params param_sorts
          (kinds_many f.params) y
          (exp_in_scope scope_after y t.after (sorted_some (sort_of scope_after t.after) after_truth) h)))
          after_truth

      pub triple_posed : IsPosed k (names_before f t) f.body results t.after
      triple_posed = record {
        given = result_sorts;
        sorted =
            given_wider k f.body (names_with params param_sorts nowhere) (names_before f t)
            (first_known params extra param_sorts extra_sorts asserted.names (kinds_many f.params) (logical_sorts_many t.logicals)) result_sorts body.gives;
        many = eqb-true (length results) (length result_sorts) (one_result_each f.results body.few);
        truth = truth_there;
      }

      -- the same on the function's heaps, with the names in scope in another form
      pub posed_here : (lifted : Bool) → lifted ≡ is_lifted f.level → (ns : Names) → ns ≡ with_logicals t.logicals (names_with params param_sorts nowhere) →
          IsPosed (ground_with u lifted ts) ns f.body results t.after
      posed_here lifted level ns same =
          subst₂ (λ b ms. IsPosed (ground_with u b ts) ms f.body results t.after) (sym level) (before_is ∙ sym same) triple_posed
