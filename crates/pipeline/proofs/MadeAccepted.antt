-- What the translations make of a well-typed unit is accepted.
use Rattle.std.proofs.Common.{◌≡◌, Bool, true, false, cond, ◌&&◌, List, [], ◌∷◌, map, refl, sym, subst, ap, ap₂, ◌∙◌}
use Rattle.std.specs.List.{list_all}
use Rattle.std.proofs.lemmas.Bool.{and_parts}
use Rattle.c_values.specs.Name.{Name, same_name, are_distinct}
use Rattle.c_values.specs.Layout.{Layout}
use Rattle.expression_lang.specs.Expression.{Exp}
use Rattle.expression_lang.specs.Sort.{Level, is_lifted, are_kinds, sort_of_kind}
use Rattle.expression_lang.specs.Signature.{Signature, names_of, kinds_of, signature}
use Rattle.simpl_lang.specs.Command.{SimplFn, SimplUnit}
use Rattle.simpl_lang.specs.Sorted as S
use Rattle.simpl_lang.specs.Sorted.{same_level, come_first, holds_result, are_signed, is_sorted, scope_of}
use Rattle.monad_lang.specs.Program.{Mon, FinalFn, FinalUnit}
use Rattle.monad_lang.specs.Form.{is_bytes}
use Rattle.monad_lang.specs.Sorted as M
use Rattle.monad_lang.specs.Sorted.{has_few, are_scalars, scalars_given, setting_of, signature_of as signature_made, is_fn_sorted}
use Rattle.rule_exn.specs.Eliminated.{exceptions_eliminated}
use Rattle.rule_local.specs.Units.{context_of, outputs_of}
use Rattle.rule_local.specs.Lifted.{function_lifted, functions_lifted}
use Rattle.rule_local.proofs.LiftedBytes.{locals_lifted_bytes}
use Rattle.rule_heap.specs.HeapLifted.{on_heaps, function_on_heaps, functions_on_heaps, IsFunctionReady, AreFunctionsReady}
use Rattle.rule_word.specs.Rule.{Context}
use Rattle.rule_word.specs.UnitAbstracted.{FunctionKinds, right_context, function_abstracted, functions_abstracted}
use Rattle.c_lang.specs.Typed.{TypedFn, TypedUnit}
use Rattle.c_lang.specs.WellTyped.{IsWellTyped}
use Rattle.c_meaning.specs.Levels.{callees_in}
use Rattle.generation.specs.Generate.{function_of, signature_of, generated}
use Rattle.generation.proofs.WellFormedUnits.{generated_is_well_formed}
use Rattle.pipeline.specs.Ready.{function_eliminated, unit_eliminated, CallsLifted}
use Rattle.pipeline.proofs.CallsForHeaps.{commands_calls, whole_calls}
use Rattle.pipeline.proofs.UnitsForHeaps.{generates_ready}
use Rattle.pipeline.specs.GeneratesReady.{kinds_of_functions, kinds_in, on_words as after_heaps, IsWordReady, AreWordReady}
use Rattle.pipeline.proofs.SignaturesAlike.{in_words_all, same_signatures}
use Rattle.acceptance.specs.Certificate.{Steps}
use Rattle.acceptance.specs.Accepted.{calls_only, is_lifted_there, calls_lifted, is_on_words, is_on_numbers, word_context, IsWordStep, IsEqualStep, IsFunctionAccepted, AreFunctionsAccepted, IsAccepted}
use Rattle.pipeline.specs.Made.{local_made, word_made, IsMade, AreMade, LastStep, steps_with, all_steps_with, certificate_with, unchanged_last, certificate_made, begins_at, tidy_last, tidy_certificate, AreTidy}
use Rattle.pipeline.specs.Units.{on_words, on_numbers, functions_with}
use Rattle.pipeline.proofs.Signed.{made, signed}
use Rattle.pipeline.proofs.UnitsMade.{words_signed, numbers_signed, gives_words, gives_numbers}
use Rattle.pipeline.proofs.UnreadCommands.{generated_on_bytes}
use Rattle.pipeline.proofs.MadeCalls.{level_there, calls_there}
use Rattle.pipeline.proofs.MadeSteps.{exception_accepted, local_accepted, heap_accepted, before_is, heap_form, word_there, word_accepted}
use Rattle.pipeline.proofs.LastSteps.{unchanged_step, tidy_step}
use Rattle.polish.proofs.MadeTidy.{made_tidy}
use Rattle.pipeline.proofs.UnitsForNumbers.{generates_word_ready}
use Rattle.pipeline.proofs.TranslatedExact.{translated_is_taken}

-- The units of the translations have the signatures of the generated one, in words or as they are.

module _ (l : Layout) (levels : Name → Level) where
  -- with the locals lifted, and on typed heaps
  abbrev pub lifted_functions : List TypedFn → List FinalFn
  lifted_functions fs = functions_lifted (map function_eliminated (made l levels fs)) (signed l levels fs)

  abbrev pub heap_functions : List TypedFn → List FinalFn
  heap_functions fs = functions_on_heaps (lifted_functions fs)

  abbrev pub kinds : List TypedFn → List FunctionKinds
  kinds fs = kinds_of_functions (made l levels fs) (signed l levels fs)

  abbrev pub word_functions : (Exp → Exp → Bool) → Context → List TypedFn → List FinalFn
  word_functions same ctx fs = functions_abstracted same ctx (heap_functions fs) (kinds fs)

  -- of one function
  module _ (f : TypedFn) where
    abbrev pub the_function : SimplFn
    the_function = function_of l (levels f.name) f

    abbrev pub the_signature : Signature
    the_signature = signature_of l (levels f.name) f

    abbrev pub local_program : Mon
    local_program = (local_made the_function the_signature).program

    abbrev pub heap_program : Mon
    heap_program = cond (is_lifted (levels f.name)) (on_heaps local_program) local_program

    abbrev pub the_kinds : FunctionKinds
    the_kinds = record { params = the_signature.params; result = the_signature.result; locals = the_function.locals }

    abbrev pub word_function : (Exp → Exp → Bool) → Context → FinalFn
    word_function same ctx =
        function_abstracted same ctx (function_on_heaps (function_lifted (function_eliminated the_function) the_signature)) the_kinds

  lifted_signed : (fs : List TypedFn) → map signature_made (lifted_functions fs) ≡ in_words_all (signed l levels fs)
  lifted_signed [] = refl
  lifted_signed (f ∷ fs) = ap₂ (λ s ss. s ∷ ss) (words_signed (the_signature f) (local_program f)) (lifted_signed fs)

  heap_signed : (fs : List TypedFn) → map signature_made (heap_functions fs) ≡ in_words_all (signed l levels fs)
  heap_signed [] = refl
  heap_signed (f ∷ fs) = ap₂ (λ s ss. s ∷ ss) (words_signed (the_signature f) (heap_program f)) (heap_signed fs)

  word_signed : (same : Exp → Exp → Bool) (ctx : Context) (fs : List TypedFn) →
      map signature_made (word_functions same ctx fs) ≡ signed l levels fs
  word_signed same ctx [] = refl
  word_signed same ctx (f ∷ fs) =
      ap₂ (λ s ss. s ∷ ss) (numbers_signed (the_signature f) (word_function f same ctx).body) (word_signed same ctx fs)

-- What well-formed units say of their first function.

held : (fs : List SimplFn) (ss : List Signature) (f : SimplFn) (s : Signature) → are_signed (f ∷ fs) (s ∷ ss) ≡ true →
    (holds_result s.result f.locals ≡ true) × (are_signed fs ss ≡ true)
held fs ss f s h =
    let p = and_parts (same_name f.name s.name && same_level f.level s.level && come_first s.params f.locals
    && holds_result s.result f.locals) (are_signed fs ss) h in
    let q = and_parts (same_name f.name s.name && same_level f.level s.level && come_first s.params f.locals)
    (holds_result s.result f.locals) p.0 in
    (q.1, p.1)

command_of : (v : SimplUnit) (f : SimplFn) (fs : List SimplFn) → S.are_fns_sorted v (f ∷ fs) ≡ true →
    (is_sorted (scope_of v f) v.signatures f.body ≡ true) × (S.are_fns_sorted v fs ≡ true)
command_of v f fs h =
    let p = and_parts (are_kinds (kinds_of f.locals) && are_distinct (names_of f.locals)
    && is_sorted (scope_of v f) v.signatures f.body) (S.are_fns_sorted v fs) h in
    let q = and_parts (are_kinds (kinds_of f.locals) && are_distinct (names_of f.locals))
    (is_sorted (scope_of v f) v.signatures f.body) p.0 in
    (q.1, p.1)

program_of : (v : FinalUnit) (f : FinalFn) (fs : List FinalFn) → M.are_fns_sorted v (f ∷ fs) ≡ true →
    (is_fn_sorted v f ≡ true) × (M.are_fns_sorted v fs ≡ true)
program_of v f fs h = let p = and_parts (is_fn_sorted v f) (M.are_fns_sorted v fs) h in (p.0, p.1)

-- What is known of one function of the unit, in each unit of the translations.

module _ (same : Exp → Exp → Bool) (u : TypedUnit) (levels : Name → Level) where
  abbrev pub g : SimplUnit
  g = generated u levels

  -- the context of the words' rules, as the translations have it
  abbrev pub ctx : Context
  ctx = right_context (after_heaps g) (kinds_in g)

  abbrev over : List FinalFn → FinalUnit
  over fs = record { layout = u.layout; globals = u.globals; functions = fs }

  pub record IsReady (f : TypedFn) : Type 0 where
    pub body : is_sorted (scope_of g (the_function u.layout levels f)) g.signatures (the_function u.layout levels f).body ≡ true
    pub flat : is_sorted (scope_of g (the_function u.layout levels f)) g.signatures
        (exceptions_eliminated (the_function u.layout levels f).body).right ≡ true
    pub result : holds_result (the_signature u.layout levels f).result (the_function u.layout levels f).locals ≡ true
    pub lifted : is_fn_sorted (over (lifted_functions u.layout levels u.functions))
        (on_words (the_signature u.layout levels f) (local_program u.layout levels f)) ≡ true
    pub on_heap : is_fn_sorted (over (heap_functions u.layout levels u.functions))
        (on_words (the_signature u.layout levels f) (heap_program u.layout levels f)) ≡ true
    pub abstracted : is_fn_sorted (over (word_functions u.layout levels same ctx u.functions))
        (on_numbers (the_signature u.layout levels f) (word_function u.layout levels f same ctx).body) ≡ true
    pub heaps : IsFunctionReady u.layout levels
        (function_lifted (function_eliminated (the_function u.layout levels f)) (the_signature u.layout levels f))
    pub words : IsWordReady same ctx (function_on_heaps
        (function_lifted (function_eliminated (the_function u.layout levels f)) (the_signature u.layout levels f)))
        (the_kinds u.layout levels f)
    pub calls : is_lifted (levels f.name) ≡ true → list_all (λ y. is_lifted (levels y)) (callees_in f.body) ≡ true

  gives : (v : FinalUnit) (f : FinalFn) → is_fn_sorted v f ≡ true →
      are_scalars (map sort_of_kind f.results) (scalars_given (setting_of v f) f.body) ≡ true
  gives v f h =
      (and_parts (are_kinds (kinds_of f.params) && are_kinds f.results && are_distinct (names_of f.params)
      && has_few f.results) (are_scalars (map sort_of_kind f.results) (scalars_given (setting_of v f) f.body)) h).1

  same_context : ctx ≡ word_context g
  same_context =
      ap (λ (ss : List Signature). let c : Context = record { layout = u.layout; globals = u.globals; functions = ss } in c)
      (same_signatures u.layout levels u.functions)

  module _ (is_same : (a b : Exp) → same a b ≡ true → a ≡ b) (f : TypedFn) (h : IsReady f) where
    local_gives : is_on_words g (the_signature u.layout levels f) (local_program u.layout levels f) ≡ true
    local_gives =
        let fs = lifted_functions u.layout levels u.functions in
        let s = the_signature u.layout levels f in
        let m = local_program u.layout levels f in
        sym (gives_words g fs s m (lifted_signed u.layout levels u.functions)) ∙ gives (over fs) (on_words s m) h.lifted

    heap_gives : is_on_words g (the_signature u.layout levels f) (heap_program u.layout levels f) ≡ true
    heap_gives =
        let fs = heap_functions u.layout levels u.functions in
        let s = the_signature u.layout levels f in
        let m = heap_program u.layout levels f in
        sym (gives_words g fs s m (heap_signed u.layout levels u.functions)) ∙ gives (over fs) (on_words s m) h.on_heap

    word_gives : is_on_numbers g (the_signature u.layout levels f) (word_function u.layout levels f same ctx).body ≡ true
    word_gives =
        let fs = word_functions u.layout levels same ctx u.functions in
        let s = the_signature u.layout levels f in
        let m = (word_function u.layout levels f same ctx).body in
        sym (gives_numbers g fs s m (word_signed u.layout levels same ctx u.functions))
        ∙ gives (over fs) (on_numbers s m) h.abstracted

    on_bytes : is_bytes (local_program u.layout levels f) ≡ true
    on_bytes =
        locals_lifted_bytes (context_of (the_function u.layout levels f) (the_signature u.layout levels f))
        (exceptions_eliminated (the_function u.layout levels f).body).right
        (outputs_of (the_signature u.layout levels f).result)
        (generated_on_bytes u.layout (levels f.name) f.result f.body)

    calls_here : (b : Bool) → is_lifted (levels f.name) ≡ b →
        cond b (calls_only (λ x. is_lifted_there (signature g.signatures x)) (the_function u.layout levels f).body) true ≡ true
    calls_here true e =
        let lifted = λ (x : Name). is_lifted (levels x) in
        calls_there (scope_of g (the_function u.layout levels f)) g.signatures levels (level_there u.layout levels u.functions)
        (the_function u.layout levels f).body h.body
        (whole_calls lifted f.result _ (commands_calls lifted u.layout (levels f.name) f.body (h.calls e)))
    calls_here false e = refl

    pub function_accepted : (c : Steps) → IsMade same g (the_function u.layout levels f) (the_signature u.layout levels f) c →
        IsFunctionAccepted g (the_function u.layout levels f) (the_signature u.layout levels f) c
    function_accepted c k =
        let fn = the_function u.layout levels f in
        let s = the_signature u.layout levels f in
        let n = heap_program u.layout levels f in
        let word = word_accepted same is_same g fn s c n k.level (before_is g fn s c k.local k.heap) k.word
        (word_there same is_same g fn s ctx same_context n heap_gives word_gives h.words.ready
        (heap_form (levels f.name) (local_program u.layout levels f) on_bytes) h.words.kinds.binds) in
        record {
          name = k.name;
          level = k.level;
          calls = subst (λ v. calls_lifted g v fn.body ≡ true) (sym k.level) (calls_here (is_lifted (levels f.name)) refl);
          exception = exception_accepted g fn c h.flat k.exception;
          local = local_accepted g fn s c h.flat h.result local_gives on_bytes k.exception k.local;
          heap = heap_accepted g fn s c k.local k.heap k.level (λ e. (h.heaps.1 e).ready) heap_gives;
          word = word;
          equal = k.equal word;
        }

  abbrev AllReady : List TypedFn → Type 0
  AllReady [] = Unit {0}
  AllReady (f ∷ fs) = IsReady f × AllReady fs

  functions_accepted : (is_same : (a b : Exp) → same a b ≡ true → a ≡ b) (fs : List TypedFn) (cs : List Steps) → AllReady fs →
      AreMade same g (made u.layout levels fs) (signed u.layout levels fs) cs →
      AreFunctionsAccepted g (made u.layout levels fs) (signed u.layout levels fs) cs
  functions_accepted is_same [] [] h k = tt
  functions_accepted is_same (f ∷ fs) (c ∷ cs) h k =
      (function_accepted is_same f h.0 c k.0, functions_accepted is_same fs cs h.1 k.1)
  functions_accepted is_same [] (c ∷ cs) h k = absurd k
  functions_accepted is_same (f ∷ fs) [] h k = absurd k

  all_ready : (fs : List TypedFn) → S.are_fns_sorted g (made u.layout levels fs) ≡ true →
      S.are_fns_sorted (unit_eliminated g) (map function_eliminated (made u.layout levels fs)) ≡ true →
      are_signed (made u.layout levels fs) (signed u.layout levels fs) ≡ true →
      M.are_fns_sorted (over (lifted_functions u.layout levels u.functions)) (lifted_functions u.layout levels fs) ≡ true →
      M.are_fns_sorted (over (heap_functions u.layout levels u.functions)) (heap_functions u.layout levels fs) ≡ true →
      M.are_fns_sorted (over (word_functions u.layout levels same ctx u.functions))
      (word_functions u.layout levels same ctx fs) ≡ true →
      AreFunctionsReady u.layout levels (lifted_functions u.layout levels fs) →
      AreWordReady same ctx (heap_functions u.layout levels fs) (kinds u.layout levels fs) → CallsLifted levels fs → AllReady fs
  all_ready [] a b s l h w r q k = tt
  all_ready (f ∷ fs) a b s l h w r q k =
      let fn = the_function u.layout levels f in
      let a' = command_of g fn (made u.layout levels fs) a in
      let b' = command_of (unit_eliminated g) (function_eliminated fn)
      (map function_eliminated (made u.layout levels fs)) b in
      let s' = held (made u.layout levels fs) (signed u.layout levels fs) fn (the_signature u.layout levels f) s in
      let l' = program_of (over (lifted_functions u.layout levels u.functions))
      (on_words (the_signature u.layout levels f) (local_program u.layout levels f))
      (lifted_functions u.layout levels fs) l in
      let h' = program_of (over (heap_functions u.layout levels u.functions))
      (on_words (the_signature u.layout levels f) (heap_program u.layout levels f)) (heap_functions u.layout levels fs) h in
      let w' = program_of (over (word_functions u.layout levels same ctx u.functions))
      (on_numbers (the_signature u.layout levels f) (word_function u.layout levels f same ctx).body)
      (word_functions u.layout levels same ctx fs) w in (
        record {
          body = a'.0;
          flat = b'.0;
          result = s'.0;
          lifted = l'.0;
          on_heap = h'.0;
          abstracted = w'.0;
          heaps = r.0;
          words = q.0;
          calls = k.0;
        },
        all_ready fs a'.1 b'.1 s'.1 l'.1 h'.1 w'.1 r.1 q.1 k.1,
      )

-- by a test that finds equal expressions, and no others
pub made_is_accepted : (same : Exp → Exp → Bool) → ((a b : Exp) → same a b ≡ true → a ≡ b) → ((e : Exp) → same e e ≡ true) →
    (u : TypedUnit) → IsWellTyped u → (levels : Name → Level) → CallsLifted levels u.functions → (cs : List Steps) →
    AreMade same (generated u levels) (generated u levels).functions (generated u levels).signatures cs →
    IsAccepted (generated u levels) cs
made_is_accepted same is_same finds u typed levels calls cs h =
    let formed = generated_is_well_formed u typed levels in
    let taken = translated_is_taken same is_same u typed levels calls in
    functions_accepted same u levels is_same u.functions cs
    (all_ready same u levels u.functions formed.functions taken.flat_formed.functions formed.signatures
    taken.local_formed.functions taken.heap_formed.functions taken.last_formed.functions (generates_ready u typed levels calls)
    (generates_word_ready u typed same finds levels) calls) h

-- so a certificate is accepted whose last steps are
module _ (last : LastStep) (same : Exp → Exp → Bool) (g : SimplUnit)
    (ends : (s : Signature) (c : Steps) → c.equal ≡ last g s c.word.program → IsWordStep g s c → IsEqualStep g s c) where
  steps_are_made : (f : SimplFn) (s : Signature) → IsMade same g f s (steps_with last same g f s)
  steps_are_made f s = record {
    name = refl;
    level = refl;
    exception = refl;
    local = refl;
    heap = refl;
    word = ap (λ m. word_made same g f s m) (sym (before_is g f s (steps_with last same g f s) refl refl));
    equal = ends s (steps_with last same g f s) refl;
  }

  all_are_made : (u : TypedUnit) (levels : Name → Level) (fs : List TypedFn) →
      AreMade same g (made u.layout levels fs) (signed u.layout levels fs)
      (all_steps_with last same g (made u.layout levels fs) (signed u.layout levels fs))
  all_are_made u levels [] = tt
  all_are_made u levels (f ∷ fs) =
      (steps_are_made (the_function u.layout levels f) (the_signature u.layout levels f), all_are_made u levels fs)

module _ (same : Exp → Exp → Bool) (is_same : (a b : Exp) → same a b ≡ true → a ≡ b) (finds : (e : Exp) → same e e ≡ true)
    (u : TypedUnit) (typed : IsWellTyped u) (levels : Name → Level) (calls : CallsLifted levels u.functions) where
  pub accepted_with : (last : LastStep) →
      ((s : Signature) (c : Steps) → c.equal ≡ last (generated u levels) s c.word.program → IsWordStep (generated u levels) s c → IsEqualStep (generated u levels) s c) →
      IsAccepted (generated u levels) (certificate_with last same (generated u levels))
  accepted_with last ends =
      made_is_accepted same is_same finds u typed levels calls (certificate_with last same (generated u levels))
      (all_are_made last same (generated u levels) ends u levels u.functions)

  -- with last steps that change nothing
  pub certificates_are_there : IsAccepted (generated u levels) (certificate_made same (generated u levels))
  certificates_are_there = accepted_with unchanged_last (λ s c e. unchanged_step (generated u levels) s c e)

  -- with last steps that make programs tidy
  pub tidy_is_accepted : IsAccepted (generated u levels) (tidy_certificate same (generated u levels))
  tidy_is_accepted = accepted_with tidy_last (λ s c e. tidy_step (generated u levels) s c typed.layout e)

pub last_are_tidy : (same : Exp → Exp → Bool) (g : SimplUnit) (fs : List SimplFn) (ss : List Signature) →
    AreTidy (functions_with on_numbers (λ c. c.equal.program) ss (all_steps_with tidy_last same g fs ss))
last_are_tidy same g [] [] = tt
last_are_tidy same g [] (s ∷ ss) = tt
last_are_tidy same g (f ∷ fs) [] = tt
last_are_tidy same g (f ∷ fs) (s ∷ ss) =
    (made_tidy (begins_at g s) (steps_with tidy_last same g f s).word.program, last_are_tidy same g fs ss)
