-- Functions that are called from outside: their programs begin well-sorted, and what they give is their results.
use Rattle.std.proofs.Common.{◌≡◌, ℕ, ◌+◌, ◌<◌, ◌≤◌, ◌↔◌, Bool, true, false, cond, ◌&&◌, List, [], ◌∷◌, ◌++◌, length, map, Option, Some, None, refl, sym, ap, ◌∙◌, subst, arith}
use Rattle.std.proofs.lemmas.Bool.{and_parts, false≢true}
use Rattle.std.proofs.lemmas.List.{length-append}
use Rattle.std.specs.Prelude.{IsSome, option_to_list}
use Rattle.correspondence.specs.Outcome.{Outcome, Done}
use Rattle.c_values.specs.Name.{Name, same_name}
use Rattle.c_values.specs.Value.{Value}
use Rattle.c_values.specs.Choice.{Fill}
use Rattle.c_values.specs.declared.values.Value as V
use Rattle.c_values.specs.CodeValue.{value_of}
use Rattle.c_values.proofs.Options.{some_is, none_is}
use Rattle.expression_lang.specs.Sort.{Kind, sort_of_kind}
use Rattle.expression_lang.specs.Evaluation.{State}
use Rattle.expression_lang.specs.States.{IsState}
use Rattle.expression_lang.specs.Signature.{Invocation, names_of, kinds_of, signature}
use Rattle.expression_lang.specs.CodeState.{Bindings, env_of}
use Rattle.monad_lang.specs.Program.{FinalFn, FinalUnit, final_fn}
use Rattle.monad_lang.specs.Run.{Answer}
use Rattle.monad_lang.specs.Sorted.{IsWellFormed, signature_of, setting_of, scalars_given, are_scalars, has_few}
use Rattle.monad_lang.proofs.Given.{given_there}
use Rattle.program_facts.specs.Lasting.{AreOfSorts, Lasts}
use Rattle.program_facts.proofs.RunsLast.{found, sorted_at_kinds, formed_units_last}
use Rattle.program_runs.specs.WideRun.{Trouble, wide_function_runs, wide_functions_below, wide_program_runs, wide_runs}
use Rattle.program_runs.specs.Bound.{Extends}
use Rattle.program_runs.specs.Machine.{runs_at, CanRun}
use Rattle.program_runs.specs.CodeRun.{values_in}
use Rattle.program_runs.proofs.Bindings.{env_extended, scalars_extended, setting_extended}
use Rattle.program_runs.proofs.Calls.{results_are}
use Rattle.program_runs.proofs.Narrows.{call_narrows}

signed_at : (fs : List FinalFn) (x : Name) (f : FinalFn) → final_fn fs x ≡ Some f → signature (map signature_of fs) x ≡ Some (signature_of f)
signed_at [] x f e = none_is e
signed_at (g ∷ fs) x f e = by_name (same_name g.name x) (signed_at fs x f) e
  where
    by_name : (b : Bool) → (final_fn fs x ≡ Some f → signature (map signature_of fs) x ≡ Some (signature_of f)) → cond b (Some g) (final_fn fs x) ≡ Some f →
        cond b (Some (signature_of g)) (signature (map signature_of fs) x) ≡ Some (signature_of f)
    by_name true rest h = ap (λ i. Some (signature_of i)) (some_is h)
    by_name false rest h = rest h

module _ (u : FinalUnit) (formed : IsWellFormed u) (x : Name) (f : FinalFn) (there : final_fn u.functions x ≡ Some f) where
  record IsSorted : Type 0 where
    pub few : has_few f.results ≡ true
    pub gives : scalars_given (setting_of u f) f.body ≡ Some (map sort_of_kind f.results)

  is_sorted : IsSorted
  is_sorted =
      let w = found sort_of_kind u u.functions x (signature_of f) (sorted_at_kinds u u.functions formed.functions) (signed_at u.functions x f there) in
      let same : w.function ≡ f = some_is (sym w.there ∙ there) in
      let sorted = subst (λ g. (has_few g.results && are_scalars (map sort_of_kind g.results) (scalars_given (setting_of u g) g.body)) ≡ true) same w.sorted in
      let b = and_parts (has_few f.results) (are_scalars (map sort_of_kind f.results) (scalars_given (setting_of u f) f.body)) sorted in
      record { few = b.0; gives = given_there (map sort_of_kind f.results) (scalars_given (setting_of u f) f.body) b.1 }

  module _ (vs : List Value) (given : AreOfSorts (map sort_of_kind (kinds_of f.params)) vs) where
    module _ (new : Bindings) (bound : Extends [] (names_of f.params) vs new) where
      pub body_can_run : CanRun u new f.body
      body_can_run = record {
        bindings = scalars_extended [] (names_of f.params) vs new bound (map sort_of_kind (kinds_of f.params)) given tt;
        scalars = map sort_of_kind f.results;
        gives = ap (λ t. scalars_given t f.body) (setting_extended [] (names_of f.params) vs new bound (map sort_of_kind (kinds_of f.params)) given u) ∙ is_sorted.gives;
      }

      pub call_ends : (k n d : ℕ) (s : State) (o : Outcome Answer Trouble) → runs_at u k (env_of new) f.body (record { turns = n; depth = d }) s o →
          wide_program_runs u (Fill k) n (Some d) (record { name = x; arguments = vs; state = s }) o
      call_ends k n d s o h =
          subst (λ q. wide_function_runs u.layout (Fill k) q (Some d) (wide_functions_below u (Fill k) n) (record { name = x; arguments = vs; state = s }) o) (sym there)
          (subst (λ env. wide_runs u.layout (Fill k) f.body env (Some d) (wide_functions_below u (Fill k) n) s o) (env_extended [] (names_of f.params) vs new bound) h)

    module _ (k n d : ℕ) (s : State) (state : IsState u.layout u.globals s) (a : Answer) (end : wide_program_runs u (Fill k) n (Some d) (record { name = x; arguments = vs; state = s }) (Done a)) where
      pub answer_lasts : Lasts u.layout u.globals (map sort_of_kind f.results) s a
      answer_lasts =
          let c : Invocation = record { name = x; arguments = vs; state = s } in
          let narrow = (call_narrows u (Fill k) n (Some d) c).done a end in
          let last = (formed_units_last u formed).runs (Fill k) n (Some d) c (signature_of f) (signed_at u.functions x f there) given state a narrow in
          subst (λ cs. Lasts u.layout u.globals cs s a) (sym (results_are f is_sorted.few)) last

      pub at_most_one : length a.values ≤ 1
      at_most_one = few_values f.results a.values is_sorted.few answer_lasts.values
        where
          few_values : (ks : List Kind) (vs : List Value) → has_few ks ≡ true → AreOfSorts (map sort_of_kind ks) vs → length vs ≤ 1
          few_values [] [] e h = omega arith
          few_values [] (v ∷ vs) e h = absurd h
          few_values (q ∷ []) [] e h = absurd h
          few_values (q ∷ []) (v ∷ []) e h = omega arith
          few_values (q ∷ []) (v ∷ w ∷ vs) e h = absurd h.1
          few_values (q ∷ r ∷ ks) vs e h = absurd (false≢true e)

-- the last of values that are at most one is the only one
pub popped_only : (items news : List V.Value) (o : Option V.Value) (n : ℕ) → n ≡ length items → items ≡ news ++ option_to_list o → IsSome o ↔ (0 < n) → length items ≤ 1 → map value_of items ≡ values_in o
popped_only [] [] (Some v) n same e h le = absurd cc
popped_only [] (w ∷ ws) (Some v) n same e h le = absurd cc
popped_only [] news None n same e h le = refl
popped_only (v ∷ vs) news None n same e h le = let some : 0 < n = omega arith in absurd (false≢true (h.1 some))
popped_only (v ∷ w ∷ vs) news (Some x) n same e h le = absurd (omega arith)
popped_only (v ∷ []) [] (Some x) n same e h le = ap (map value_of) e
popped_only (v ∷ []) (w ∷ ws) (Some x) n same e h le =
    let two : length (v ∷ []) ≡ length (w ∷ ws) + length (x ∷ []) = ap length e ∙ length-append (w ∷ ws) (x ∷ []) in
    absurd (omega arith)
