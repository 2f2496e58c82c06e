-- Generated Simpl has exactly the ends of the C function, in a unit that is well-typed.
use Rattle.std.proofs.Common.{◌≡◌, ℕ, zero, suc, true, false, List, [], ◌∷◌, ◌++◌, Option, Some, refl, sym, subst, ap, ◌∙◌, ap₂, not, ◌||◌}
use Rattle.std.specs.Prelude.{◌&&◌}
use Rattle.std.proofs.lemmas.Bool.{or_parts, not-true, and_parts}
use Rattle.correspondence.specs.Outcome.{Done, Then}
use Rattle.correspondence.specs.Bound.{below}
use Rattle.correspondence.specs.Corresponds.{Corresponds, Paired}
use Rattle.correspondence.proofs.Corresponds.{corresponds_weaker}
use Rattle.c_values.specs.Name.{Name, same_name, is_among, are_distinct}
use Rattle.c_values.specs.Choice.{Choice}
use Rattle.expression_lang.specs.Sort.{Level}
use Rattle.expression_lang.specs.Signature.{Invocation, signature, bound, result_kind}
use Rattle.simpl_lang.specs.Command.{kind_of}
use Rattle.simpl_lang.specs.Exec as X
use Rattle.expression_lang.specs.Machine.{Returned, machine_with}
use Rattle.simpl_lang.specs.Exec.{simpl_runs, execs}
use Rattle.c_lang.specs.Typed as C
use Rattle.c_lang.specs.WellTyped.{Scope, IsWellTyped, scope_in, is_function, is_result, are_statements, are_variables, nowhere}
use Rattle.c_meaning.specs.CRun as R
use Rattle.c_meaning.specs.CRun.{Runs, c_runs}
use Rattle.generation.specs.Generate.{function_of, signature_of, generated, locals, commands, whole_body}
use Rattle.c_meaning.specs.Fitting.{AreOfTypes, IsReturned}
use Rattle.expression_lang.specs.States.{IsState}
use Rattle.generation.proofs.ExactTests.{all_of_four}
use Rattle.generation.proofs.ExactGuards.{SameKind}
use Rattle.generation.proofs.ExactMachines.{Alike, setting}
use Rattle.generation.proofs.ExactEnds.{IsGiven, SameCalls, Stands}
use Rattle.generation.proofs.ExactStatements.{body_same}
use Rattle.generation.proofs.ExactEntry.{names_are}
use Rattle.generation.proofs.UnitParts.{variables_apart, body_found, signature_found, function_typed, more_locals, locals_are}
use Rattle.generation.proofs.ExactFunctions.{locals_kind, entered_alike, whole_ended}

among_first : (x : Name) (xs ys : List C.Variable) → is_among x (C.variable_names (xs ++ ys)) ≡ false → is_among x (C.variable_names xs) ≡ false
among_first x [] ys h = refl
among_first x (y ∷ xs) ys h =
    let k = or_parts (same_name x y.name) (is_among x (C.variable_names (xs ++ ys))) h in
    ap (λ b. b || is_among x (C.variable_names xs)) k.0 ∙ among_first x xs ys k.1

distinct_first : (xs ys : List C.Variable) → are_distinct (C.variable_names (xs ++ ys)) ≡ true → are_distinct (C.variable_names xs) ≡ true
distinct_first [] ys h = refl
distinct_first (x ∷ xs) ys h =
    let p = and_parts (not (is_among x.name (C.variable_names (xs ++ ys)))) (are_distinct (C.variable_names (xs ++ ys))) h in
    ap₂ (λ a b. not a && b) (among_first x.name xs ys (not-true (is_among x.name (C.variable_names (xs ++ ys))) p.0)) (distinct_first xs ys p.1)

module _ (u : C.TypedUnit) (w : IsWellTyped u) (levels : Name → Level) (p : Choice) where
  abbrev AllSame : Runs → Runs → Type 0
  AllSame = SameCalls u.layout u.globals u.functions

  module _ (f : C.TypedFn) (t : is_function u f ≡ true) where
    abbrev level : Level
    level = levels f.name

    abbrev here : Scope
    here = scope_in u f

    parts : (are_variables (f.params ++ f.locals) ≡ true) × (are_distinct (C.variable_names (f.params ++ f.locals)) ≡ true) × (is_result f.result ≡ true) × (are_statements here nowhere f.body ≡ true)
    parts = all_of_four (are_variables (f.params ++ f.locals)) (are_distinct (C.variable_names (f.params ++ f.locals))) (is_result f.result) (are_statements here nowhere f.body) t

    callee_typed : (x : Name) (k : C.TypedFn) → C.typed_fn u.functions x ≡ Some k → (are_variables k.params ≡ true) × (is_result k.result ≡ true)
    callee_typed x k e =
        let q = all_of_four (are_variables (k.params ++ k.locals)) (are_distinct (C.variable_names (k.params ++ k.locals))) (is_result k.result) (are_statements (scope_in u k) nowhere k.body)
        (function_typed u.layout levels x k u u.functions w.functions e) in
        ((variables_apart k.params k.locals q.0).0, q.2)

    stands : Stands here level (locals u.layout.target level f)
    stands = record {
      layout = w.layout;
      globals = w.globals;
      own = parts.0;
      result = parts.2;
      callees = callee_typed;
      kinds = λ x v e. ap (λ bs. kind_of bs x) (locals_are u.layout.target level f) ∙ locals_kind u.layout level f.params f.locals (more_locals u.layout.target level f) x v e;
    }

    function_same : (fs fs' : List Runs) → Paired AllSame fs fs' → (depth : Option ℕ) (c : Invocation) → AreOfTypes u.layout f.params c.arguments → IsState u.layout u.globals c.state →
        Corresponds (IsGiven u.layout u.globals f) SameKind (R.function_runs u.layout p levels (Some f) depth fs c)
        (X.function_runs u.layout p (Some (function_of u.layout level f)) (Some (signature_of u.layout level f)) depth fs' c)
    function_same fs fs' paired depth c args is =
        let v = variables_apart f.params f.locals parts.0 in
        subst (λ xs. Corresponds (IsGiven u.layout u.globals f) SameKind (R.function_runs u.layout p levels (Some f) depth fs c)
        (Then (execs u.layout p (locals u.layout.target level f) (whole_body f.result (commands u.layout level f.body)) depth fs' (machine_with (bound xs c.arguments (X.zero_locals (locals u.layout.target level f))) c.state))
        (X.ended (result_kind u.layout.target level f.result)))) (sym (names_are u.layout.target level f.params))
        (whole_ended here p (locals u.layout.target level f) depth fs' u.layout.target level f.result refl
        (R.statements (setting here p level) f.body depth fs (machine_with (bound (C.variable_names f.params) c.arguments (R.zero_locals u.layout f.locals)) c.state)) (commands u.layout level f.body)
        (machine_with (bound (C.variable_names f.params) c.arguments (X.zero_locals (locals u.layout.target level f))) c.state)
        (body_same here level p (locals u.layout.target level f) stands f.body parts.3 depth fs fs' paired
        (machine_with (bound (C.variable_names f.params) c.arguments (R.zero_locals u.layout f.locals)) c.state)
        (machine_with (bound (C.variable_names f.params) c.arguments (X.zero_locals (locals u.layout.target level f))) c.state)
        (subst (λ bs. Alike here (machine_with (bound (C.variable_names f.params) c.arguments (R.zero_locals u.layout f.locals)) c.state) (machine_with (bound (C.variable_names f.params) c.arguments (X.zero_locals bs)) c.state)) (sym (locals_are u.layout.target level f))
        (entered_alike u.layout level f.params f.locals (more_locals u.layout.target level f) parts.0 v.0 v.1 (distinct_first f.params f.locals parts.1) c.arguments args here c.state refl refl is))))

  bodies_same : (fs fs' : List Runs) → Paired AllSame fs fs' → AllSame (R.bodies u levels p fs) (X.bodies (generated u levels) p fs')
  bodies_same fs fs' paired depth c f e args is =
      subst (λ o. Corresponds (IsGiven u.layout u.globals f) SameKind (R.function_runs u.layout p levels o depth fs c) (X.bodies (generated u levels) p fs' depth c)) (sym e)
      (subst (λ o. Corresponds (IsGiven u.layout u.globals f) SameKind (R.function_runs u.layout p levels (Some f) depth fs c) (X.function_runs u.layout p o (signature (generated u levels).signatures c.name) depth fs' c)) (sym (body_found u.layout levels c.name f u.functions e))
      (subst (λ o. Corresponds (IsGiven u.layout u.globals f) SameKind (R.function_runs u.layout p levels (Some f) depth fs c) (X.function_runs u.layout p (Some (function_of u.layout (levels f.name) f)) o depth fs' c)) (sym (signature_found u.layout levels c.name f u.functions e))
      (function_same f (function_typed u.layout levels c.name f u u.functions w.functions e) fs fs' paired depth c args is)))

  below_same : (n : ℕ) → Paired AllSame (below (R.bodies u levels p) n) (below (X.bodies (generated u levels) p) n)
  below_same zero = tt
  below_same (suc n) = let k : Paired AllSame (below (R.bodies u levels p) n) (below (X.bodies (generated u levels) p) n) = below_same n in (bodies_same _ _ k, k)

  -- a call has exactly the ends of the C function, and gives what is of its result's type
  module _ (n : ℕ) (depth : Option ℕ) (c : Invocation) (f : C.TypedFn) (e : C.typed_fn u.functions c.name ≡ Some f) (args : AreOfTypes u.layout f.params c.arguments) (is : IsState u.layout u.globals c.state) where
    call_same : Corresponds (IsGiven u.layout u.globals f) SameKind (c_runs u levels p n depth c) (simpl_runs (generated u levels) p n depth c)
    call_same = bodies_same _ _ (below_same n) depth c f e args is

    pub generated_has_same_ends : Corresponds (λ a b. b ≡ a) (λ k j. j ≡ k) (c_runs u levels p n depth c) (simpl_runs (generated u levels) p n depth c)
    generated_has_same_ends =
        corresponds_weaker (IsGiven u.layout u.globals f) (λ a b. b ≡ a) SameKind (λ k j. j ≡ k) (c_runs u levels p n depth c) (simpl_runs (generated u levels) p n depth c)
        (λ a b k. k.0) (λ k j q. q) call_same

    pub result_is_typed : (r : Returned) → c_runs u levels p n depth c (Done r) → IsReturned u.layout u.globals f.result r
    result_is_typed r k = (call_same.done r k).1.1
