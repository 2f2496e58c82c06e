-- Calls of functions of a well-formed unit.
use Rattle.std.proofs.Common.{◌≡◌, ℕ, ◌+◌, Bool, true, false, List, [], ◌∷◌, ◌++◌, map, reverse, Option, Some, None, if◌then◌else◌, refl, sym, ap, ◌∙◌, subst}
use Rattle.std.proofs.lemmas.Bool.{and_parts, false≢true}
use Rattle.std.specs.Prelude.{IsSome, string_bytes}
use Rattle.c_values.specs.Name.{Name}
use Rattle.c_values.specs.Value.{Value}
use Rattle.c_values.proofs.Options.{some_is, none_is}
use Rattle.expression_lang.specs.declared.signatures.Binder as D
use Rattle.expression_lang.specs.Expression.{Exp}
use Rattle.expression_lang.specs.Sort.{Scalar, Kind, sort_of_kind}
use Rattle.expression_lang.specs.Sorted.{scalars_of, same_scalars, call_scalars, result_scalars}
use Rattle.expression_lang.specs.Evaluation.{State}
use Rattle.expression_lang.specs.States.{IsState}
use Rattle.expression_lang.specs.Signature.{Signature, values_of, names_of, kinds_of, signature}
use Rattle.expression_lang.specs.CodeSignature.{binder_of}
use Rattle.expression_lang.specs.CodeState.{Bindings, env_of}
use Rattle.monad_lang.specs.Program.{Call, FinalFn, FinalUnit, final_fn}
use Rattle.monad_lang.specs.Sorted.{IsWellFormed, signature_of, setting_of, scalars_given, are_scalars, has_few}
use Rattle.monad_lang.proofs.Given.{given_there}
use Rattle.program_facts.specs.Lasting.{AreOfSorts}
use Rattle.program_facts.proofs.Sorts.{call_parts}
use Rattle.program_facts.proofs.SortedValues.{values_sorted}
use Rattle.program_facts.proofs.RunsLast.{found, sorted_at_kinds}
use Rattle.program_runs.specs.declared.machine.Pending as W
use Rattle.program_runs.specs.WideRun.{wide_among}
use Rattle.program_runs.specs.Bound.{Extends}
use Rattle.program_runs.specs.Machine.{Caller, Running, setting_at, IsSorted, Steps}
use Rattle.program_runs.specs.CodeRun.{stack_of, machine_at}
use Rattle.program_runs.proofs.Bindings.{environment}
use Rattle.program_runs.proofs.MachineSteps.{call_begins}
use Rattle.program_runs.proofs.Stacks.{pushed_first}

pub results_are : (f : FinalFn) → has_few f.results ≡ true → map sort_of_kind f.results ≡ result_scalars sort_of_kind (signature_of f).result
results_are f h = of f.results h
  where
    of : (rs : List Kind) → has_few rs ≡ true → map sort_of_kind rs ≡ result_scalars sort_of_kind (signature_of (record { name = f.name; level = f.level; params = f.params; results = rs; body = f.body })).result
    of [] e = refl
    of (k ∷ []) e = refl
    of (k ∷ j ∷ ks) e = absurd (false≢true e)

call_given : (s : Signature) (o : Option (List Scalar)) (cs : List Scalar) → call_scalars sort_of_kind (Some s) o ≡ Some cs → result_scalars sort_of_kind s.result ≡ cs
call_given s (Some ss) cs h = by_test (same_scalars (map sort_of_kind (kinds_of s.params)) ss) h
  where
    by_test : (b : Bool) → (if b then Some (result_scalars sort_of_kind s.result) else None) ≡ Some cs → result_scalars sort_of_kind s.result ≡ cs
    by_test true e = some_is e
    by_test false e = none_is e
call_given s None cs h = none_is h

pub names_of_params : (bs : List D.Binder) → names_of (map binder_of bs) ≡ map (λ b. string_bytes b.name) bs
names_of_params [] = refl
names_of_params (b ∷ bs) = ap (λ ns. string_bytes b.name ∷ ns) (names_of_params bs)

module _ (u : FinalUnit) (formed : IsWellFormed u) (bs : Bindings) (f : Name) (es : List Exp) where
  -- what a call finds, and what it gives
  record Calls (body : FinalFn) (cs : List Scalar) : Type 0 where
    pub arguments : scalars_of (setting_at u bs).scope es ≡ Some (map sort_of_kind (kinds_of body.params))
    pub gives : scalars_given (setting_of u body) body.body ≡ Some cs

  found_at : (cs : List Scalar) → scalars_given (setting_at u bs) (Call f es) ≡ Some cs → (body : FinalFn) × (final_fn u.functions f ≡ Some body) × Calls body cs
  found_at cs h =
      let p = call_parts sort_of_kind (signature (map signature_of u.functions) f) (scalars_of (setting_at u bs).scope es) cs h in
      let w = found sort_of_kind u u.functions f p.0 (sorted_at_kinds u u.functions formed.functions) p.1 in
      let b = and_parts (has_few w.function.results) (are_scalars (map sort_of_kind w.function.results) (scalars_given (setting_of u w.function) w.function.body)) w.sorted in
      let own : signature_of w.function ≡ p.0 = w.signed in (
        w.function,
        w.there,
        record {
          arguments = p.2 ∙ ap (λ s. Some (map sort_of_kind (kinds_of s.params))) (sym own);
          gives = given_there (map sort_of_kind w.function.results) (scalars_given (setting_of u w.function) w.function.body) b.1
              ∙ ap (λ ds. Some ds) (results_are w.function b.0 ∙ ap (λ s. result_scalars sort_of_kind s.result) own
              ∙ call_given p.0 (scalars_of (setting_at u bs).scope es) cs (subst (λ o. call_scalars sort_of_kind o (scalars_of (setting_at u bs).scope es) ≡ Some cs) p.1 h));
        },
      )

  pub function_found : (cs : List Scalar) → scalars_given (setting_at u bs) (Call f es) ≡ Some cs → IsSome (final_fn u.functions f)
  function_found cs h = let w = found_at cs h in subst (λ o. IsSome o) (sym w.1) refl

  calls_it : (body : FinalFn) (cs : List Scalar) → final_fn u.functions f ≡ Some body → scalars_given (setting_at u bs) (Call f es) ≡ Some cs → Calls body cs
  calls_it body cs there h = let w = found_at cs h in subst (λ q. Calls q cs) (some_is (sym w.1 ∙ there)) w.2

  pub call_pushed : (k : ℕ) (out : List Scalar) (s : State) (state : IsState u.layout u.globals s) (items news : List W.Pending) (new : Bindings) (caller : _) (vs : List Value) (body : FinalFn) (n d i j : ℕ) →
      news ≡ items ++ (W.TheVariants.Caller caller ∷ []) → caller.items ≡ bs → wide_among u.layout (env_of bs) s es ≡ None → n + 1 ≡ i → d + 1 ≡ j →
      vs ≡ values_of u.layout (env_of bs) s es → final_fn u.functions f ≡ Some body → Extends [] (names_of body.params) vs new →
      IsSorted u (machine_at bs items (Running bs (Call f es) (record { turns = i; depth = j })) s) out →
      Steps u k out (machine_at bs items (Running bs (Call f es) (record { turns = i; depth = j })) s) (machine_at new news (Running new body.body (record { turns = n; depth = d })) s)
  call_pushed k out s state items news new caller vs body n d i j grown own narrow one deeper same there x h =
      let w = calls_it body h.here there h.now.gives in
      let sorted = values_sorted (setting_at u bs).scope formed.layout u.globals refl (env_of bs) (environment u bs h.now.bindings) s state es (map sort_of_kind (kinds_of body.params)) w.arguments in
      subst (λ st. Steps u k out (machine_at bs items (Running bs (Call f es) (record { turns = i; depth = j })) s) (record { stack = st; now = Running new body.body (record { turns = n; depth = d }); state = s }))
      (sym (pushed_first new items news (W.TheVariants.Caller caller) grown ∙ ap (λ q. Caller ∷ stack_of q (reverse items)) own))
      (call_begins u k out (stack_of bs (reverse items)) s bs new f es n d vs body narrow i j one deeper same there x (subst (λ ws. AreOfSorts (map sort_of_kind (kinds_of body.params)) ws) (sym same) sorted) h.here w.gives h.rest)
