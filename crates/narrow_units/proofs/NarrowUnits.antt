-- The Simpl unit of a well-typed unit has no wide operation.
use Rattle.std.proofs.Common.{◌≡◌, true, false, not, List, [], ◌∷◌, ◌++◌, map, Option, Some, None, sym, ap, ◌∙◌, subst, append_assoc}
use Rattle.std.proofs.lemmas.Bool.{not-true, and_parts}
use Rattle.c_values.specs.Name.{Name, same_name, with_name, is_among, are_distinct}
use Rattle.c_values.specs.Types.{Target, CType}
use Rattle.c_values.specs.Layout.{scalar_width}
use Rattle.c_values.proofs.Laid.{name_is}
use Rattle.c_values.proofs.Options.{none_some, some_is}
use Rattle.expression_lang.specs.Sort.{Level, Scalar, WordSort, word_sort_of, are_kinds}
use Rattle.expression_lang.specs.Signature.{Binder, names_of, kinds_of, kind_at, binder}
use Rattle.expression_lang.specs.Sorted.{names_with}
use Rattle.simpl_lang.specs.Command.{SimplFn, SimplUnit}
use Rattle.simpl_lang.specs.Sorted.{is_sorted, scope_of, are_fns_sorted}
use Rattle.c_lang.specs.Typed as C
use Rattle.c_lang.specs.WellTyped.{IsWellTyped, scope_in, variable_type, are_variables, is_function, are_functions, are_statements, nowhere}
use Rattle.c_meaning.specs.Kinds.{variables}
use Rattle.generation.specs.Generate.{locals, function_of, generated}
use Rattle.generation.proofs.ExactTests.{all_of_four, by_cases, where_true, where_false}
use Rattle.generation.proofs.UnitParts.{more_locals, locals_are}
use Rattle.generation.proofs.LocalNames.{variables_append}
use Rattle.generation.proofs.SortedCommands.{kind_word}
use Rattle.generation.proofs.SortedExpressions.{IsScope}
use Rattle.generation.proofs.WellFormedUnits.{generated_is_well_formed, other_scalar}
use Rattle.narrow.specs.Narrow.{IsUnitNarrow, AreFnsNarrow, IsCommandNarrow}
use Rattle.narrow_units.proofs.NarrowCommands.{commands_narrow, whole_narrow}

-- the sorts of locals with different names

abbrev scalars_among : List Binder → (Name → Option Scalar) → Name → Option Scalar
scalars_among bs names = names_with (names_of bs) (map word_sort_of (kinds_of bs)) names

module _ (t : Target) (level : Level) (x : Name) (u : CType) where
  -- a variable of the name, before others of other names
  found : (names : Name → Option Scalar) (v : C.Variable) (bs : List Binder) → is_among v.name (names_of bs) ≡ false →
      same_name v.name x ≡ true → v.type ≡ u →
      scalars_among (binder v.name (kind_at t level v.type) ∷ bs) names x ≡ Some (WordSort (scalar_width t u))
  found names v bs h b e =
      let r = Some (word_sort_of (kind_at t level v.type)) in
      other_scalar bs (with_name v.name r names) x (subst (λ y. is_among y (names_of bs) ≡ false) (name_is v.name x b) h)
      ∙ where_true (same_name v.name x) r (names x) b ∙ ap Some (kind_word t level v.type)
      ∙ ap (λ w. Some (WordSort (scalar_width t w))) e

  -- the variables of the text come before other locals
  variable_known : (names : Name → Option Scalar) (vs : List C.Variable) (bs : List Binder) →
      are_distinct (names_of (variables t level vs ++ bs)) ≡ true → variable_type vs x ≡ Some u →
      scalars_among (variables t level vs ++ bs) names x ≡ Some (WordSort (scalar_width t u))
  variable_known names [] bs d e = absurd (none_some e)
  variable_known names (v ∷ vs) bs d e =
      let others = variables t level vs ++ bs in
      let p = and_parts (not (is_among v.name (names_of others))) (are_distinct (names_of others)) d in
      by_cases (scalars_among (variables t level (v ∷ vs) ++ bs) names x ≡ Some (WordSort (scalar_width t u))) (same_name v.name x)
      (λ b. found names v others (not-true (is_among v.name (names_of others)) p.0) b
      (some_is (sym (where_true (same_name v.name x) (Some v.type) (variable_type vs x) b) ∙ e)))
      (λ b. variable_known (with_name v.name (Some (word_sort_of (kind_at t level v.type))) names) vs bs p.1
      (sym (where_false (same_name v.name x) (Some v.type) (variable_type vs x) b) ∙ e))

module _ (u : C.TypedUnit) (w : IsWellTyped u) (levels : Name → Level) where
  abbrev g : SimplUnit
  g = generated u levels

  abbrev made : C.TypedFn → SimplFn
  made f = function_of u.layout (levels f.name) f

  module _ (f : C.TypedFn) (typed : is_function u f ≡ true) (distinct : are_distinct (names_of (made f).locals) ≡ true) where
    abbrev names : Name → Option Scalar
    names = scalars_among (locals u.layout.target (levels f.name) f) (λ x. None)

    own : are_variables (f.params ++ f.locals) ≡ true
    own = (all_of_four (are_variables (f.params ++ f.locals)) _ _ _ typed).0

    statements : are_statements (scope_in u f) nowhere f.body ≡ true
    statements = (all_of_four (are_variables (f.params ++ f.locals)) _ _ _ typed).3

    abbrev text : List Binder
    text = variables u.layout.target (levels f.name) (f.params ++ f.locals)

    abbrev added : List Binder
    added = more_locals u.layout.target (levels f.name) f

    -- those of the text come first
    text_first : locals u.layout.target (levels f.name) f ≡ text ++ added
    text_first =
        let t = u.layout.target in
        let level = levels f.name in
        locals_are t level f ∙ sym (append_assoc (variables t level f.params) (variables t level f.locals) added)
        ∙ ap (λ bs. bs ++ added) (sym (variables_append t level f.params f.locals))

    known : (x : Name) (v : CType) → variable_type (f.params ++ f.locals) x ≡ Some v →
        names x ≡ Some (WordSort (scalar_width u.layout.target v))
    known x v e =
        ap (λ bs. scalars_among bs (λ y. None) x) text_first
        ∙ variable_known u.layout.target (levels f.name) x v (λ y. None) (f.params ++ f.locals) added
        (subst (λ bs. are_distinct (names_of bs) ≡ true) text_first distinct) e

    scope : IsScope (scope_in u f) names
    scope = record { layout = w.layout; globals = w.globals; own = own; known = known }

    body_narrow : IsCommandNarrow (scope_of g (made f)) u.globals (made f).body
    body_narrow =
        whole_narrow (scope_in u f) names scope (levels f.name) f.result _
        (commands_narrow (scope_in u f) names scope (levels f.name) nowhere f.body statements)

  functions_narrow : (fs : List C.TypedFn) → are_functions u fs ≡ true → are_fns_sorted g (map made fs) ≡ true →
      AreFnsNarrow g (map made fs)
  functions_narrow [] h k = tt
  functions_narrow (f ∷ fs) h k =
      let p = and_parts (is_function u f) (are_functions u fs) h in
      let q = all_of_four (are_kinds (kinds_of (made f).locals)) (are_distinct (names_of (made f).locals))
      (is_sorted (scope_of g (made f)) g.signatures (made f).body) (are_fns_sorted g (map made fs)) k in
      (body_narrow f p.0 q.1, functions_narrow fs p.1 q.3)

  pub generated_is_narrow : IsUnitNarrow (generated u levels)
  generated_is_narrow = functions_narrow u.functions w.functions (generated_is_well_formed u w levels).functions
