-- The parts of a generated unit: what stands for the function of a name, and which locals come first.
use Rattle.std.proofs.Common.{◌≡◌, true, List, [], ◌∷◌, ◌++◌, map, Some, refl, sym, subst, ap, ◌∙◌, append_assoc}
use Rattle.std.specs.Prelude.{◌&&◌}
use Rattle.std.proofs.lemmas.Bool.{and_parts}
use Rattle.c_values.specs.Name.{Name, same_name}
use Rattle.c_values.specs.Layout.{Layout, is_scalar}
use Rattle.c_values.specs.Types.{Target}
use Rattle.c_values.proofs.Options.{none_some, some_is}
use Rattle.expression_lang.specs.Sort.{Level, WordKind, BoolKind}
use Rattle.expression_lang.specs.Signature.{Binder, signature, binder}
use Rattle.simpl_lang.specs.Command.{simpl_fn}
use Rattle.simpl_lang.specs.Flag.{thrown_local}
use Rattle.c_lang.specs.Typed as C
use Rattle.c_lang.specs.WellTyped.{is_function, are_functions, is_own_name, are_variables}
use Rattle.c_meaning.specs.Kinds.{variables}
use Rattle.generation.specs.Generate.{function_of, signature_of, result_binder, exception_local, added_in, locals}
use Rattle.generation.proofs.ExactTests.{all_of_three, by_test, by_cases, where_true, where_false}

pub variables_apart : (xs ys : List C.Variable) → are_variables (xs ++ ys) ≡ true → (are_variables xs ≡ true) × (are_variables ys ≡ true)
variables_apart [] ys h = (refl, h)
variables_apart (x ∷ xs) ys h =
    let p = all_of_three (is_scalar x.type) (is_own_name x.name) (are_variables (xs ++ ys)) h in
    let q = variables_apart xs ys p.2 in
    (ap (λ b. b && is_own_name x.name && are_variables xs) p.0 ∙ ap (λ b. true && b && are_variables xs) p.1 ∙ q.0, q.1)

-- what is generated for the function of a name
module _ (l : Layout) (levels : Name → Level) (x : Name) (f : C.TypedFn) where
  pub body_found : (fs : List C.TypedFn) → C.typed_fn fs x ≡ Some f → simpl_fn (map (λ h. function_of l (levels h.name) h) fs) x ≡ Some (function_of l (levels f.name) f)
  body_found [] e = absurd (none_some e)
  body_found (h ∷ fs) e =
      by_test (λ o. o ≡ Some (function_of l (levels f.name) f)) (same_name h.name x) (Some (function_of l (levels h.name) h)) (simpl_fn (map (λ k. function_of l (levels k.name) k) fs) x)
      (λ b. ap (λ k. Some (function_of l (levels k.name) k)) (some_is (sym (where_true (same_name h.name x) (Some h) (C.typed_fn fs x) b) ∙ e)))
      (λ b. body_found fs (sym (where_false (same_name h.name x) (Some h) (C.typed_fn fs x) b) ∙ e))

  pub signature_found : (fs : List C.TypedFn) → C.typed_fn fs x ≡ Some f → signature (map (λ h. signature_of l (levels h.name) h) fs) x ≡ Some (signature_of l (levels f.name) f)
  signature_found [] e = absurd (none_some e)
  signature_found (h ∷ fs) e =
      by_test (λ o. o ≡ Some (signature_of l (levels f.name) f)) (same_name h.name x) (Some (signature_of l (levels h.name) h)) (signature (map (λ k. signature_of l (levels k.name) k) fs) x)
      (λ b. ap (λ k. Some (signature_of l (levels k.name) k)) (some_is (sym (where_true (same_name h.name x) (Some h) (C.typed_fn fs x) b) ∙ e)))
      (λ b. signature_found fs (sym (where_false (same_name h.name x) (Some h) (C.typed_fn fs x) b) ∙ e))

  pub function_typed : (u : C.TypedUnit) (fs : List C.TypedFn) → are_functions u fs ≡ true → C.typed_fn fs x ≡ Some f → is_function u f ≡ true
  function_typed u [] h e = absurd (none_some e)
  function_typed u (k ∷ fs) h e =
      let p = and_parts (is_function u k) (are_functions u fs) h in
      by_cases (is_function u f ≡ true) (same_name k.name x)
      (λ b. subst (λ z. is_function u z ≡ true) (some_is (sym (where_true (same_name k.name x) (Some k) (C.typed_fn fs x) b) ∙ e)) p.0)
      (λ b. function_typed u fs p.1 (sym (where_false (same_name k.name x) (Some k) (C.typed_fn fs x) b) ∙ e))

-- the locals behind those of the text
abbrev pub more_locals : Target → Level → C.TypedFn → List Binder
more_locals t level f =
    let a = added_in t level f.body in
    result_binder t level f.result ++ binder exception_local (WordKind 32) ∷ [] ++ a.calls ++ a.switches ++ a.firsts ++ binder thrown_local BoolKind ∷ []

gathered : {A : Type 0} (a b c d e f g h : List A) → (a ++ b ++ c ++ d ++ e ++ f ++ g ++ h) ≡ a ++ (b ++ (c ++ d ++ e ++ f ++ g ++ h))
gathered a b c d e f g h = simp append_assoc

pub locals_are : (t : Target) (level : Level) (f : C.TypedFn) → locals t level f ≡ variables t level f.params ++ (variables t level f.locals ++ more_locals t level f)
locals_are t level f =
    let a = added_in t level f.body in
    gathered (variables t level f.params) (variables t level f.locals) (result_binder t level f.result) (binder exception_local (WordKind 32) ∷ []) a.calls a.switches a.firsts (binder thrown_local BoolKind ∷ [])
