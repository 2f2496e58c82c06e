-- What is generated for a unit has texts.
use Rattle.std.proofs.Common.{◌≡◌, ℕ, true, List, [], ◌∷◌, ◌++◌, map, Option, Some, None, refl, sym, ap, ◌∙◌, subst}
use Rattle.std.proofs.lemmas.Bool.{false≢true, and_from, and_parts}
use Rattle.c_values.specs.Name.{Name, same_name}
use Rattle.c_values.specs.Types.{Target, CType, Integer}
use Rattle.c_values.specs.Layout.{GlobalVar, global_type}
use Rattle.c_values.proofs.Laid.{name_is}
use Rattle.c_values.proofs.Options.{none_some}
use Rattle.expression_lang.specs.Sort.{Level, BoolKind}
use Rattle.expression_lang.specs.Signature.{Binder, binder, kind_at, result_kind}
use Rattle.expression_text.specs.Names.{is_name}
use Rattle.expression_text.specs.Lists.{each}
use Rattle.simpl_lang.specs.Exec.{result_local}
use Rattle.c_lang.specs.Typed as C
use Rattle.c_lang.specs.WellTyped.{IsWellTyped, scope_in, variable_type, is_type, are_variables, is_result, is_function, are_functions, are_statements, nowhere}
use Rattle.c_meaning.specs.Kinds.{variables}
use Rattle.generation.specs.Generate.{call_local, switch_local, first_local, result_binder, use_binder, Added, none_added, both_added, added, added_in, added_of, locals, function_of, signature_of, generated}
use Rattle.generation.proofs.ExactTests.{all_of_four, by_cases, where_false}
use Rattle.generation.proofs.WellFormedUnits.{type_kind}
use Rattle.unit_names.specs.HasNames.{HasNames, has_name, function_has_names, global_has_name, statements_have_types}
use Rattle.generated_texts.specs.HasTexts.{HasTexts, is_binder, function_has_text, signature_has_text}
use Rattle.generated_texts.specs.HasTexts as T
use Rattle.generated_texts.proofs.NumberTexts.{call_named, switch_named, first_named}
use Rattle.generated_texts.proofs.ExpressionTexts.{IsNamed}
use Rattle.generated_texts.proofs.CommandTexts.{commands_text, whole_text}

-- names are those of what is declared

variable_named : (vs : List C.Variable) → each has_name vs ≡ true → (x : Name) (t : CType) → is_type (variable_type vs x) t ≡ true → is_name x ≡ true
variable_named [] h x t e = absurd (false≢true e)
variable_named (v ∷ vs) h x t e =
    let p = and_parts (is_name v.name) (each has_name vs) h in
    by_cases _ (same_name v.name x)
    (λ b. subst (λ y. is_name y ≡ true) (name_is v.name x b) p.0)
    (λ b. variable_named vs p.1 x t (sym (ap (λ o. is_type o t) (where_false (same_name v.name x) (Some v.type) (variable_type vs x) b)) ∙ e))

global_named : (vs : List GlobalVar) → each global_has_name vs ≡ true → (x : Name) (t : CType) → global_type vs x ≡ Some t → is_name x ≡ true
global_named [] h x t e = absurd (none_some e)
global_named (v ∷ vs) h x t e =
    let p = and_parts (is_name v.name) (each global_has_name vs) h in
    by_cases _ (same_name v.name x)
    (λ b. subst (λ y. is_name y ≡ true) (name_is v.name x b) p.0)
    (λ b. global_named vs p.1 x t (sym (where_false (same_name v.name x) (Some v.type) (global_type vs x) b) ∙ e))

called_named : (fs : List C.TypedFn) → each function_has_names fs ≡ true → (x : Name) (k : C.TypedFn) → C.typed_fn fs x ≡ Some k → is_name x ≡ true
called_named [] h x k e = absurd (none_some e)
called_named (f ∷ fs) h x k e =
    let p = and_parts (function_has_names f) (each function_has_names fs) h in
    by_cases _ (same_name f.name x)
    (λ b. subst (λ y. is_name y ≡ true) (name_is f.name x b) (all_of_four (is_name f.name) _ _ _ p.0).0)
    (λ b. called_named fs p.1 x k (sym (where_false (same_name f.name x) (Some f) (C.typed_fn fs x) b) ∙ e))

both_named : (vs ws : List C.Variable) → each has_name vs ≡ true → each has_name ws ≡ true → each has_name (vs ++ ws) ≡ true
both_named [] ws h k = k
both_named (v ∷ vs) ws h k = let p = and_parts (is_name v.name) (each has_name vs) h in and_from _ _ p.0 (both_named vs ws p.1 k)

-- locals

record AreBinders (bs : List Binder) : Type 0 where
  pub are : each is_binder bs ≡ true

no_binders : AreBinders []
no_binders = record { are = refl }

append : {bs cs : List Binder} → AreBinders bs → AreBinders cs → AreBinders (bs ++ cs)
append {bs = []} h k = k
append {bs = b ∷ bs} h k = let p = and_parts (is_binder b) (each is_binder bs) h.are in record { are = and_from _ _ p.0 (append {bs = bs} (record { are = p.1 }) k).are }

module _ (t : Target) (level : Level) where
  one_binder : (x : Name) (u : CType) → is_name x ≡ true → AreBinders (binder x (kind_at t level u) ∷ [])
  one_binder x u h = record { are = and_from _ _ (and_from _ _ h (type_kind t level u)) refl }

  variable_binders : (vs : List C.Variable) → each has_name vs ≡ true → AreBinders (variables t level vs)
  variable_binders [] h = no_binders
  variable_binders (v ∷ vs) h =
      let p = and_parts (is_name v.name) (each has_name vs) h in record { are = and_from _ _ (and_from _ _ p.0 (type_kind t level v.type)) (variable_binders vs p.1).are }

  result_binders : (r : Option CType) → AreBinders (result_binder t level r)
  result_binders None = no_binders
  result_binders (Some u) = one_binder result_local u refl

  use_binders : (n : ℕ) (u : C.Use) → AreBinders (use_binder t level n u)
  use_binders n C.NoResult = no_binders
  use_binders n (C.Ignored from) = one_binder (call_local n) from (call_named n)
  use_binders n (C.Assigned from d) = one_binder (call_local n) from (call_named n)
  use_binders n (C.Returned from to) = one_binder (call_local n) from (call_named n)

  record AddedBinders (a : Added) : Type 0 where
    pub calls : AreBinders a.calls
    pub switches : AreBinders a.switches
    pub firsts : AreBinders a.firsts

  none_binders : AddedBinders none_added
  none_binders = record { calls = no_binders; switches = no_binders; firsts = no_binders }

  both_binders : {a b : Added} → AddedBinders a → AddedBinders b → AddedBinders (both_added a b)
  both_binders h k = record {
    calls = append h.calls k.calls;
    switches = append h.switches k.switches;
    firsts = append h.firsts k.firsts;
  }

  mutual
    added_binders : (s : C.Statement) → AddedBinders (added t level s)
    added_binders C.Empty = none_binders
    added_binders (C.Block ss) = added_in_binders ss
    added_binders (C.Declare y u) = none_binders
    added_binders (C.Assign d e) = none_binders
    added_binders (C.Call n f es u) = record { calls = use_binders n u; switches = no_binders; firsts = no_binders }
    added_binders (C.If e a b) = both_binders (added_binders a) (added_binders b)
    added_binders (C.While e a) = added_binders a
    added_binders (C.DoWhile k a e) =
        both_binders {a = record { calls = []; switches = []; firsts = binder (first_local k) BoolKind ∷ [] }}
        (record { calls = no_binders; switches = no_binders; firsts = record { are = and_from _ _ (and_from _ _ (first_named k) refl) refl } }) (added_binders a)
    added_binders (C.For init test step a) = both_binders (added_in_binders init) (both_binders (added_binders step) (added_binders a))
    added_binders (C.Switch n i e gs) =
        both_binders {a = record { calls = []; switches = binder (switch_local n) (kind_at t level (Integer i)) ∷ []; firsts = [] }}
        (record { calls = no_binders; switches = one_binder (switch_local n) (Integer i) (switch_named n); firsts = no_binders }) (added_of_binders gs)
    added_binders C.Break = none_binders
    added_binders C.Continue = none_binders
    added_binders C.ReturnNothing = none_binders
    added_binders (C.Return e) = none_binders

    added_in_binders : (ss : C.Statements) → AddedBinders (added_in t level ss)
    added_in_binders C.no_statements = none_binders
    added_in_binders (C.next s ss) = both_binders (added_binders s) (added_in_binders ss)

    added_of_binders : (gs : C.Groups) → AddedBinders (added_of t level gs)
    added_of_binders C.no_groups = none_binders
    added_of_binders (C.group labels d ss gs) = both_binders (added_in_binders ss) (added_of_binders gs)

  locals_binders : (f : C.TypedFn) → each has_name f.params ≡ true → each has_name f.locals ≡ true → AreBinders (locals t level f)
  locals_binders f h k =
      let a = added_in_binders f.body in
      append (append (append (append (append (append (append (variable_binders f.params h) (variable_binders f.locals k)) (result_binders f.result)) (record { are = refl })) a.calls) a.switches) a.firsts)
      (record { are = refl })

  result_text : (r : Option CType) → T.is_result (result_kind t level r) ≡ true
  result_text None = refl
  result_text (Some u) = type_kind t level u

-- functions of the unit
module _ (u : C.TypedUnit) (w : IsWellTyped u) (n : HasNames u) (levels : Name → Level) where
  abbrev t : Target
  t = u.layout.target

  function_text : (f : C.TypedFn) → is_function u f ≡ true → function_has_names f ≡ true → function_has_text (function_of u.layout (levels f.name) f) ≡ true
  function_text f typed names =
      let parts = all_of_four (are_variables (f.params ++ f.locals)) _ (is_result f.result) (are_statements (scope_in u f) nowhere f.body) typed in
      let named = all_of_four (is_name f.name) (each has_name f.params) (each has_name f.locals) (statements_have_types f.body) names in
      let around : IsNamed (scope_in u f) = record {
        layout = w.layout;
        globals = w.globals;
        variable = variable_named (f.params ++ f.locals) (both_named f.params f.locals named.1 named.2);
        global = global_named u.globals n.globals;
      } in
      and_from _ _ (and_from _ _ named.0 (locals_binders u.layout.target (levels f.name) f named.1 named.2).are)
      (whole_text f.result _ (commands_text (scope_in u f) (levels f.name) around (called_named u.functions n.functions) nowhere f.body parts.3 named.3)).text

  functions_text : (fs : List C.TypedFn) → are_functions u fs ≡ true → each function_has_names fs ≡ true → each function_has_text (map (λ f. function_of u.layout (levels f.name) f) fs) ≡ true
  functions_text [] h k = refl
  functions_text (f ∷ fs) h k =
      let p = and_parts (is_function u f) (are_functions u fs) h in
      let q = and_parts (function_has_names f) (each function_has_names fs) k in
      and_from _ _ (function_text f p.0 q.0) (functions_text fs p.1 q.1)

  signatures_text : (fs : List C.TypedFn) → each function_has_names fs ≡ true → each signature_has_text (map (λ f. signature_of u.layout (levels f.name) f) fs) ≡ true
  signatures_text [] k = refl
  signatures_text (f ∷ fs) k =
      let q = and_parts (function_has_names f) (each function_has_names fs) k in
      let named = all_of_four (is_name f.name) (each has_name f.params) (each has_name f.locals) (statements_have_types f.body) q.0 in
      and_from _ _ (and_from _ _ (and_from _ _ named.0 (variable_binders u.layout.target (levels f.name) f.params named.1).are) (result_text u.layout.target (levels f.name) f.result)) (signatures_text fs q.1)

  pub generated_has_texts : HasTexts (generated u levels)
  generated_has_texts = record {
    globals = n.globals;
    functions = functions_text u.functions w.functions n.functions;
    signatures = signatures_text u.functions n.functions;
  }
