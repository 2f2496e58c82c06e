-- Units whose bodies the rules take to one another keep what functions do.
use Rattle.std.proofs.Common.{◌≡◌, ℕ, zero, suc, Bool, true, false, cond, List, [], ◌∷◌, map, Option, Some, None, refl, sym, ap, ap₂, ◌∙◌, subst}
use Rattle.std.proofs.lemmas.Bool.{and_parts}
use Rattle.correspondence.specs.Corresponds.{Corresponds, Paired}
use Rattle.correspondence.specs.Related.{Same, BothFail}
use Rattle.c_values.specs.Name.{Name, same_name}
use Rattle.c_values.specs.Layout.{Layout, GlobalVar, global_type}
use Rattle.c_values.specs.Choice.{Choice}
use Rattle.c_values.proofs.Options.{some_is}
use Rattle.expression_lang.specs.Evaluation.{Env}
use Rattle.expression_lang.specs.Sort.{Level, Kind, Scope, sort_of_kind}
use Rattle.expression_lang.specs.Sorted.{names_with}
use Rattle.expression_lang.specs.Signature.{Binder, Signature, Invocation, signature, names_of, kinds_of, bound, no_env}
use Rattle.expression_lang.specs.States.{IsEnvironment}
use Rattle.monad_lang.specs.Program.{Mon, FinalFn, FinalUnit, final_fn}
use Rattle.monad_lang.specs.Run.{runs, function_runs, functions_below, program_runs}
use Rattle.monad_lang.specs.Sorted.{Setting, signature_of, scalars_given, are_scalars, has_few, IsWellFormed}
use Rattle.monad_lang.proofs.Given.{given_there}
use Rattle.program_facts.specs.Lasting.{AreOfSorts, setting_in, setting_for, is_sorted_for, are_sorted_for, CanBeCalled}
use Rattle.program_facts.proofs.SortedValues.{bound_sorted}
use Rattle.program_facts.proofs.RunsLast.{found, sorted_at_kinds}
use Rattle.rule_eq.specs.Kept.{EqualKept}
use Rattle.rule_eq.specs.Exact.{AreAlike, DoesSame}
use Rattle.rule_eq.specs.Units.{parameters_of, IsTakenTo, AreTakenTo, IsUnitTakenTo, UnitsKeepEqual}
use Rattle.rule_eq.proofs.Standing.{taken_does_same}

-- what both units have under a name
abbrev FoundBoth : FinalUnit → Option FinalFn → Option FinalFn → Type 0
FoundBoth u None None = Unit {0}
FoundBoth u (Some f) (Some g) = IsTakenTo u f g
FoundBoth u _ _ = ⊥

by_name : (u : FinalUnit) (f g : FinalFn) (o o' : Option FinalFn) (b : Bool) → IsTakenTo u f g → FoundBoth u o o' → FoundBoth u (cond b (Some f) o) (cond b (Some g) o')
by_name u f g o o' true h k = h
by_name u f g o o' false h k = k

both_found : (u : FinalUnit) (fs gs : List FinalFn) → AreTakenTo u fs gs → (x : Name) → FoundBoth u (final_fn fs x) (final_fn gs x)
both_found u [] [] h x = tt
both_found u (f ∷ fs) (g ∷ gs) h x =
    subst (λ y. FoundBoth u (cond (same_name f.name x) (Some f) (final_fn fs x)) (cond (same_name y x) (Some g) (final_fn gs x))) (sym h.0.name)
    (by_name u f g (final_fn fs x) (final_fn gs x) (same_name f.name x) h.0 (both_found u fs gs h.1 x))
both_found u [] (g ∷ gs) h x = absurd h
both_found u (f ∷ fs) [] h x = absurd h

-- the signatures are the same

abbrev signature_with : Mon → Name → Level → List Binder → List Kind → Signature
signature_with m x level params results = signature_of (record { name = x; level = level; params = params; results = results; body = m })

any_body : (m m' : Mon) (x : Name) (level : Level) (params : List Binder) (results : List Kind) → signature_with m x level params results ≡ signature_with m' x level params results
any_body m m' x level params [] = refl
any_body m m' x level params (k ∷ ks) = refl

same_signature : (u : FinalUnit) (f g : FinalFn) → IsTakenTo u f g → signature_of g ≡ signature_of f
same_signature u f g t =
    ap (λ x. signature_with g.body x g.level g.params g.results) t.name ∙ ap (λ k. signature_with g.body f.name k g.params g.results) t.level
    ∙ ap (λ bs. signature_with g.body f.name f.level bs g.results) t.parameters ∙ ap (λ ks. signature_with g.body f.name f.level f.params ks) t.results ∙ any_body g.body f.body f.name f.level f.params f.results

same_signatures : (u : FinalUnit) (fs gs : List FinalFn) → AreTakenTo u fs gs → map signature_of gs ≡ map signature_of fs
same_signatures u [] [] h = refl
same_signatures u (f ∷ fs) (g ∷ gs) h = ap₂ (λ s ss. s ∷ ss) (same_signature u f g h.0) (same_signatures u fs gs h.1)
same_signatures u [] (g ∷ gs) h = absurd h
same_signatures u (f ∷ fs) [] h = absurd h

pub taken_alike : (u v : FinalUnit) → IsUnitTakenTo u v → AreAlike u v
taken_alike u v h = record { layout = h.layout; globals = h.globals; functions = same_signatures u u.functions v.functions h.functions }

abbrev setting_with : Layout → List GlobalVar → List Signature → List Binder → Setting
setting_with l vs fs bs = record {
  scope = record { layout = l; names = names_with (names_of bs) (map sort_of_kind (kinds_of bs)) (λ x. None); globals = global_type vs };
  functions = fs;
  sort_for = sort_of_kind;
}

module _ (u v : FinalUnit) (formed : IsWellFormed u) (formed' : IsWellFormed v) (taken : IsUnitTakenTo u v) where
  alike : AreAlike u v
  alike = taken_alike u v taken

  same_setting : (f g : FinalFn) → g.params ≡ f.params → setting_for sort_of_kind v g ≡ setting_for sort_of_kind u f
  same_setting f g h =
      ap (λ l. setting_with l v.globals (map signature_of v.functions) g.params) alike.layout ∙ ap (λ vs. setting_with u.layout vs (map signature_of v.functions) g.params) alike.globals
      ∙ ap (λ fs. setting_with u.layout u.globals fs g.params) alike.functions ∙ ap (λ bs. setting_with u.layout u.globals (map signature_of u.functions) bs) h

  gives : (w : FinalUnit) (f : FinalFn) → is_sorted_for sort_of_kind w f ≡ true → scalars_given (setting_for sort_of_kind w f) f.body ≡ Some (map sort_of_kind f.results)
  gives w f h =
      given_there (map sort_of_kind f.results) (scalars_given (setting_for sort_of_kind w f) f.body) (and_parts (has_few f.results) (are_scalars (map sort_of_kind f.results) (scalars_given (setting_for sort_of_kind w f) f.body)) h).1

  module _ (p : Choice) (n : ℕ) (below : Paired (EqualKept u) (functions_below u p n) (functions_below v p n)) where
    -- bodies that were found
    bodies_do : (f g : FinalFn) → IsTakenTo u f g → is_sorted_for sort_of_kind u f ≡ true → is_sorted_for sort_of_kind v g ≡ true → (depth : Option ℕ) (env : Env) → DoesSame u v p n [] (parameters_of f) f.body g.body depth env
    bodies_do f g t sorted sorted' depth env =
        taken_does_same u v formed formed' alike p n below [] (parameters_of f) t.tree f.body g.body (map sort_of_kind f.results) (map sort_of_kind g.results) t.takes (gives u f sorted)
        (subst (λ s. scalars_given s g.body ≡ Some (map sort_of_kind g.results)) (same_setting f g t.parameters) (gives v g sorted')) depth env

    bodies_same : (f g : FinalFn) → IsTakenTo u f g → is_sorted_for sort_of_kind u f ≡ true → is_sorted_for sort_of_kind v g ≡ true → (depth : Option ℕ) (c : Invocation) → CanBeCalled u.layout u.globals (map signature_of u.functions) c →
        AreOfSorts (map sort_of_kind (kinds_of f.params)) c.arguments → Corresponds Same BothFail (function_runs u.layout p (Some f) depth (functions_below u p n) c) (function_runs v.layout p (Some g) depth (functions_below v p n) c)
    bodies_same f g t sorted sorted' depth c k arguments =
        subst (λ l. Corresponds Same BothFail (function_runs u.layout p (Some f) depth (functions_below u p n) c) (function_runs l p (Some g) depth (functions_below v p n) c)) (sym alike.layout)
        (subst (λ bs. Corresponds Same BothFail (function_runs u.layout p (Some f) depth (functions_below u p n) c) (runs u.layout p g.body (bound (names_of bs) c.arguments no_env) depth (functions_below v p n) c.state)) (sym t.parameters)
        ((bodies_do f g t sorted sorted' depth env).same c.state (record { environment = fits; state = k.state; facts = tt })))
      where
        env : Env
        env = bound (names_of f.params) c.arguments no_env

        fits : IsEnvironment (setting_in sort_of_kind u (parameters_of f)).scope env
        fits =
            let start : Scope = record { layout = u.layout; names = λ x. None; globals = global_type u.globals } in
            bound_sorted start (names_of f.params) (map sort_of_kind (kinds_of f.params)) c.arguments no_env arguments (λ x e h. absurd cc)

    one_call : (depth : Option ℕ) (c : Invocation) → CanBeCalled u.layout u.globals (map signature_of u.functions) c → Corresponds Same BothFail (program_runs u p n depth c) (program_runs v p n depth c)
    one_call depth c k =
        let f = found sort_of_kind u u.functions c.name k.function (sorted_at_kinds u u.functions formed.functions) k.found in
        let g = found sort_of_kind v v.functions c.name k.function (sorted_at_kinds v v.functions formed'.functions) (subst (λ fs. signature fs c.name ≡ Some k.function) (sym alike.functions) k.found) in
        subst (λ o. Corresponds Same BothFail (function_runs u.layout p o depth (functions_below u p n) c) (program_runs v p n depth c)) (sym f.there)
        (subst (λ o. Corresponds Same BothFail (function_runs u.layout p (Some f.function) depth (functions_below u p n) c) (function_runs v.layout p o depth (functions_below v p n) c)) (sym g.there)
        (bodies_same f.function g.function
        (subst (λ o. FoundBoth u (Some f.function) o) g.there (subst (λ o. FoundBoth u o (final_fn v.functions c.name)) f.there (both_found u u.functions v.functions taken.functions c.name)))
        f.sorted g.sorted depth c k (subst (λ s. AreOfSorts (map sort_of_kind (kinds_of s.params)) c.arguments) (sym f.signed) k.sorted)))

    bodies_keep : EqualKept u (program_runs u p n) (program_runs v p n)
    bodies_keep depth c c' k = subst (λ d. Corresponds Same BothFail (program_runs u p n depth c) (program_runs v p n depth d)) (sym k.same) (one_call depth c k.call)

  below_keep : (p : Choice) (n : ℕ) → Paired (EqualKept u) (functions_below u p n) (functions_below v p n)
  below_keep p zero = tt
  below_keep p (suc n) = (bodies_keep p n (below_keep p n), below_keep p n)

  -- functions that are found are well-sorted
  sorted_there : (w : FinalUnit) (fs : List FinalFn) (x : Name) (f : FinalFn) → are_sorted_for sort_of_kind w fs ≡ true → final_fn fs x ≡ Some f → is_sorted_for sort_of_kind w f ≡ true
  sorted_there w [] x f h e = absurd cc
  sorted_there w (g ∷ fs) x f h e =
      let k = and_parts (is_sorted_for sort_of_kind w g) (are_sorted_for sort_of_kind w fs) h in one (same_name g.name x) k.0 (λ i. sorted_there w fs x f k.1 i) e
    where
      one : (b : Bool) → is_sorted_for sort_of_kind w g ≡ true → (final_fn fs x ≡ Some f → is_sorted_for sort_of_kind w f ≡ true) → cond b (Some g) (final_fn fs x) ≡ Some f → is_sorted_for sort_of_kind w f ≡ true
      one true i rest j = subst (λ k. is_sorted_for sort_of_kind w k ≡ true) (some_is j) i
      one false i rest j = rest j

  named_bodies : (p : Choice) (n : ℕ) (x : Name) (f g : FinalFn) → final_fn u.functions x ≡ Some f → final_fn v.functions x ≡ Some g → (depth : Option ℕ) (env : Env) → DoesSame u v p n [] (parameters_of f) f.body g.body depth env
  named_bodies p n x f g e e' depth env =
      bodies_do p n (below_keep p n) f g (subst (λ o. FoundBoth u (Some f) o) e' (subst (λ o. FoundBoth u o (final_fn v.functions x)) e (both_found u u.functions v.functions taken.functions x)))
      (sorted_there u u.functions x f (sorted_at_kinds u u.functions formed.functions) e) (sorted_there v v.functions x g (sorted_at_kinds v v.functions formed'.functions) e') depth env

  pub units_keep : UnitsKeepEqual u v
  units_keep = record { below = below_keep; runs = λ p n. bodies_keep p n (below_keep p n); bodies = named_bodies }
