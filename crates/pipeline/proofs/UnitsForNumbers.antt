-- The functions of a well-typed unit, generated, without exceptions, with their locals lifted and on heaps, are ready for
-- numbers.
use Rattle.std.proofs.Common.{◌≡◌, Bool, true, false, cond, ◌&&◌, List, [], ◌∷◌, ◌++◌, map, Option, Some, None, refl, sym, subst, ap, ◌∙◌}
use Rattle.std.proofs.lemmas.Bool.{and_parts}
use Rattle.c_values.specs.Name.{Name, is_among, are_distinct}
use Rattle.c_values.specs.Layout.{scalar_width}
use Rattle.expression_lang.specs.Expression.{Exp}
use Rattle.expression_lang.specs.Sort.{Level, Bytes, Words, Numbers, Scalar, WordSort, are_kinds, is_lifted, word_sort_of}
use Rattle.expression_lang.specs.Signature.{Binder, Signature, names_of, kinds_of}
use Rattle.simpl_lang.specs.Command.{Simpl, SimplFn, SimplUnit}
use Rattle.simpl_lang.specs.Flag.{LeavesFlag, AllLeaveFlag}
use Rattle.simpl_lang.specs.Sorted.{is_sorted, scope_of, are_fns_sorted, are_signed, same_level, come_first, holds_result}
use Rattle.c_values.specs.Name.{same_name}
use Rattle.monad_lang.specs.Program.{Mon}
use Rattle.rule_exn.specs.Eliminated.{exceptions_eliminated}
use Rattle.rule_exn.proofs.EliminatedSorted.{eliminated_sorted}
use Rattle.monad_lang.specs.Agree.{AgreeOn}
use Rattle.rule_local.specs.Units.{outputs_of, context_of}
use Rattle.rule_local.specs.Lifted.{locals_lifted, function_lifted, functions_lifted}
use Rattle.rule_local.proofs.UnitsLifted.{outputs_local}
use Rattle.rule_local.proofs.LiftedSorted.{AllThere}
use Rattle.rule_heap.specs.HeapLifted.{on_heaps, function_on_heaps, functions_on_heaps}
use Rattle.rule_word.specs.Rule.{Context}
use Rattle.rule_word.specs.Scopes as S
use Rattle.rule_word.specs.Scopes.{names_in, result_as_list}
use Rattle.rule_word.specs.ProgramsAbstracted.{binds_words}
use Rattle.rule_word.specs.Ready.{is_numbers_level, program_ready}
use Rattle.rule_word.specs.UnitAbstracted.{FunctionKinds, scope_for, kinds_there, right_context}
use Rattle.c_lang.specs.Typed as C
use Rattle.c_lang.specs.WellTyped.{IsWellTyped, scope_in, nowhere, variable_type, are_variables, is_result, are_statements, is_function, are_functions}
use Rattle.c_meaning.specs.Kinds.{variables}
use Rattle.generation.specs.Generate.{locals, commands, whole_body, function_of, signature_of, generated}
use Rattle.generation.proofs.UnitParts.{more_locals, locals_are}
use Rattle.generation.proofs.LocalNames.{variables_append}
use Rattle.generation.proofs.FlagUnused.{generated_leaves_the_flag}
use Rattle.generation.proofs.WellFormedUnits.{generated_is_well_formed}
use Rattle.generation.proofs.SortedExpressions.{IsScope}
use Rattle.pipeline.specs.Ready.{function_eliminated}
use Rattle.pipeline.specs.GeneratesReady.{kinds_of_functions, kinds_in, on_words, IsWordReady, AreWordReady, GeneratesWordReady}
use Rattle.pipeline.proofs.CommandReady.{IsCommandReady}
use Rattle.pipeline.proofs.GeneratedForNumbers.{commands_ready, whole_ready}
use Rattle.pipeline.proofs.EliminatedForNumbers.{eliminated_ready}
use Rattle.pipeline.proofs.LiftedSorts.{Lifting, local_there}
use Rattle.pipeline.proofs.BindsWords.{binds_stay}
use Rattle.pipeline.proofs.BegunReady.{body_binds, body_ready}
use Rattle.pipeline.proofs.WordsStay.{program_stays}
use Rattle.pipeline.proofs.LocalsKnown.{scalars_among, params_agree, variables_known, only_words, locals_known}
use Rattle.pipeline.proofs.SignaturesAlike.{in_words_all, calls_alike, given_in_words, same_signatures}
use Rattle.pipeline.proofs.KindsFor.{takes_words}

appended : {A : Type 0} (xs ys zs : List A) → (xs ++ ys) ++ zs ≡ xs ++ (ys ++ zs)
appended [] ys zs = refl
appended (x ∷ xs) ys zs = ap (λ ws. x ∷ ws) (appended xs ys zs)

module _ (u : C.TypedUnit) (well : IsWellTyped u) (levels : Name → Level) where
  abbrev g : SimplUnit
  g = generated u levels

  abbrev ss : List Signature
  ss = (generated u levels).signatures

  abbrev ctx : Context
  ctx = right_context (on_words (generated u levels)) (kinds_in (generated u levels))

  same_functions : (right_context (on_words (generated u levels)) (kinds_in (generated u levels))).functions
      ≡ (generated u levels).signatures
  same_functions = same_signatures u.layout levels u.functions

  -- a function at a level
  module _ (f : C.TypedFn) (typed : is_function u f ≡ true) (level : Level) where
    abbrev fn : SimplFn
    fn = function_of u.layout level f

    abbrev s : Signature
    s = signature_of u.layout level f

    abbrev k : FunctionKinds
    k = record { params = s.params; result = s.result; locals = fn.locals }

    abbrev ls : List Binder
    ls = locals u.layout.target level f

    abbrev ns : Name → Option Scalar
    ns = scalars_among ls (λ x. None)

    abbrev flat : Simpl
    flat = (exceptions_eliminated fn.body).right

    record IsKnown : Type 0 where
      kinds : are_kinds (kinds_of ls) ≡ true
      distinct : are_distinct (names_of ls) ≡ true
      sorted : is_sorted (scope_of g fn) ss fn.body ≡ true
      held : holds_result s.result ls ≡ true
      flag : LeavesFlag fn

    module _ (known : IsKnown) where
      lifting : Lifting ctx ns ls ss
      lifting = record {
        calls = in_words_all ss;
        known = locals_known ls ss (in_words_all ss) known.kinds known.distinct (calls_alike ss);
        given = given_in_words ctx.functions ss same_functions;
        only = only_words ls (λ x. None) (λ y. refl);
      }

      flat_sorted : is_sorted (scope_of g fn) ss flat ≡ true
      flat_sorted = eliminated_sorted (scope_of g fn) ss (lifting.known.kinds _ _ known.flag.is_truth).0 fn.body known.sorted

      outputs_there : AllThere ns (outputs_of s.result)
      outputs_there y i = local_there ctx ns ls ss lifting y (outputs_local s.result ls known.held y i)

      agree : AgreeOn (λ y. is_among y (names_of s.params)) (names_in word_sort_of (scope_for k)) ns
      agree =
          let ps = variables u.layout.target level f.params in
          let more = variables u.layout.target level f.locals ++ more_locals u.layout.target level f in
          let are = locals_are u.layout.target level f in
          subst (λ bs. AgreeOn (λ y. is_among y (names_of ps)) (names_in word_sort_of (scope_for k))
          (scalars_among bs (λ x. None))) (sym are)
          (params_agree ps more (subst (λ bs. are_distinct (names_of bs) ≡ true) are known.distinct))

      parts : (are_variables (f.params ++ f.locals) ≡ true) × (are_statements (scope_in u f) nowhere f.body ≡ true)
      parts =
          let p = and_parts (are_variables (f.params ++ f.locals) && are_distinct (C.variable_names (f.params ++ f.locals))
          && is_result f.result) (are_statements (scope_in u f) nowhere f.body) typed in
          let q = and_parts (are_variables (f.params ++ f.locals) && are_distinct (C.variable_names (f.params ++ f.locals)))
          (is_result f.result) p.0 in
          ((and_parts (are_variables (f.params ++ f.locals)) (are_distinct (C.variable_names (f.params ++ f.locals))) q.0).0, p.1)

      scope : IsScope (scope_in u f) ns
      scope =
          let t = u.layout.target in
          let more = more_locals t level f in
          let are : ls ≡ variables t level (f.params ++ f.locals) ++ more = locals_are t level f ∙
          sym (appended (variables t level f.params) (variables t level f.locals) more) ∙
          ap (λ bs. bs ++ more) (sym (variables_append t level f.params f.locals)) in
          record {
            layout = well.layout;
            globals = well.globals;
            own = parts.0;
            known =
                subst (λ bs. (x : Name) (v : _) → variable_type (f.params ++ f.locals) x ≡ Some v →
                scalars_among bs (λ x. None) x ≡ Some (WordSort (scalar_width t v))) (sym are)
                (variables_known t level (f.params ++ f.locals) more
                (subst (λ bs. are_distinct (names_of bs) ≡ true) are known.distinct));
          }

      abbrev lifted_body : Mon
      lifted_body = (locals_lifted (context_of (function_eliminated fn) s) flat (outputs_of s.result)).right

      body_words : binds_words (S.words ctx (scope_for k)) (cond (is_lifted level) (on_heaps lifted_body) lifted_body) ≡ true
      body_words = by_level (is_lifted level)
        where
          before : binds_words (S.words ctx (scope_for k)) lifted_body ≡ true
          before =
              body_binds ctx ns ls ss lifting (names_of s.params) flat flat_sorted (outputs_of s.result) outputs_there
              (names_in word_sort_of (scope_for k)) agree

          by_level : (b : Bool) → binds_words (S.words ctx (scope_for k)) (cond b (on_heaps lifted_body) lifted_body) ≡ true
          by_level true = binds_stay (S.words ctx (scope_for k)) lifted_body before
          by_level false = before

  module _ (same : Exp → Exp → Bool) (finds : (e : Exp) → same e e ≡ true) where
    -- its body is ready, whatever its level
    ready_at : (f : C.TypedFn) (typed : is_function u f ≡ true) (level : Level) (known : IsKnown f typed level) →
        program_ready same (is_numbers_level level) ctx (kinds_there (k f typed level)) [] (scope_for (k f typed level))
        (cond (is_lifted level) (on_heaps (lifted_body f typed level known)) (lifted_body f typed level known))
        (result_as_list (s f typed level).result) ≡ true
    ready_at f typed Bytes known =
        program_stays same ctx (kinds_there (k f typed Bytes)) [] (scope_for (k f typed Bytes)) (lifted_body f typed Bytes known)
        (result_as_list (s f typed Bytes).result)
    ready_at f typed Words known =
        program_stays same ctx (kinds_there (k f typed Words)) [] (scope_for (k f typed Words))
        (on_heaps (lifted_body f typed Words known)) (result_as_list (s f typed Words).result)
    ready_at f typed Numbers known =
        let a = flat f typed Numbers in
        let names = ns f typed Numbers in
        let whole = whole_body f.result (commands u.layout Numbers f.body) in
        let around = scope f typed Numbers known in
        let ready : IsCommandReady same finds (scope_of g (fn f typed Numbers)) [] a =
        eliminated_ready same finds (scope_of g (fn f typed Numbers)) [] whole
        (whole_ready same finds (scope_in u f) names around f.result (commands u.layout Numbers f.body)
        (commands_ready same finds (scope_in u f) names around nowhere f.body (parts f typed Numbers known).1)) in
        body_ready ctx names (ls f typed Numbers) ss (lifting f typed Numbers known) (names_of (s f typed Numbers).params) a
        (flat_sorted f typed Numbers known) (outputs_of (s f typed Numbers).result) (outputs_there f typed Numbers known)
        same finds (kinds_there (k f typed Numbers)) ready (scope_for (k f typed Numbers)) (agree f typed Numbers known)
        (result_as_list (s f typed Numbers).result)

    function_ready : (f : C.TypedFn) (typed : is_function u f ≡ true) → IsKnown f typed (levels f.name) →
        IsWordReady same ctx (function_on_heaps (function_lifted (function_eliminated (fn f typed (levels f.name)))
        (s f typed (levels f.name)))) (k f typed (levels f.name))
    function_ready f typed known =
        let takes = takes_words (function_eliminated (fn f typed (levels f.name))) (s f typed (levels f.name)) in
        record {
          kinds =
              record {
                parameters = takes.parameters;
                words = takes.words;
                results = takes.results;
                binds =
                    body_words f typed (levels f.name) known;
              };
          ready = ready_at f typed (levels f.name) known;
        }

    abbrev bodies : List C.TypedFn → List SimplFn
    bodies fs = map (λ f. function_of u.layout (levels f.name) f) fs

    abbrev signed : List C.TypedFn → List Signature
    signed fs = map (λ f. signature_of u.layout (levels f.name) f) fs

    functions_ready : (fs : List C.TypedFn) → are_functions u fs ≡ true → are_fns_sorted g (bodies fs) ≡ true →
        are_signed (bodies fs) (signed fs) ≡ true → AllLeaveFlag (bodies fs) →
        AreWordReady same ctx (functions_on_heaps (functions_lifted (map function_eliminated (bodies fs)) (signed fs)))
        (kinds_of_functions (bodies fs) (signed fs))
    functions_ready [] w h i leave = tt
    functions_ready (f ∷ fs) w h i leave =
        let typed = and_parts (is_function u f) (are_functions u fs) w in
        let b = function_of u.layout (levels f.name) f in
        let t = signature_of u.layout (levels f.name) f in
        let p = and_parts (are_kinds (kinds_of b.locals) && are_distinct (names_of b.locals)
        && is_sorted (scope_of g b) ss b.body) (are_fns_sorted g (bodies fs)) h in
        let q = and_parts (are_kinds (kinds_of b.locals) && are_distinct (names_of b.locals))
        (is_sorted (scope_of g b) ss b.body) p.0 in
        let r = and_parts (are_kinds (kinds_of b.locals)) (are_distinct (names_of b.locals)) q.0 in
        let o = and_parts (same_name b.name t.name && same_level b.level t.level && come_first t.params b.locals
        && holds_result t.result b.locals) (are_signed (bodies fs) (signed fs)) i in
        let held = and_parts (same_name b.name t.name && same_level b.level t.level && come_first t.params b.locals)
        (holds_result t.result b.locals) o.0 in (
          function_ready f typed.0 (record { kinds = r.0; distinct = r.1; sorted = q.1; held = held.1; flag = leave.0 }),
          functions_ready fs typed.1 p.1 o.1 leave.1,
        )

pub generates_word_ready : (u : C.TypedUnit) → IsWellTyped u → GeneratesWordReady u
generates_word_ready u w same finds levels =
    let formed = generated_is_well_formed u w levels in
    functions_ready u w levels same finds u.functions w.functions formed.functions formed.signatures
    (generated_leaves_the_flag u levels w).functions
