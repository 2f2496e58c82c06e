-- A certificate that is made of a unit that has texts, and is accepted, has a text.
use Rattle.std.proofs.Common.{◌≡◌, Bool, true, false, cond, List, [], ◌∷◌, map, Option, Some, None, refl, sym, ap, subst, ◌∙◌}
use Rattle.std.proofs.lemmas.Bool.{and_parts, and_from}
use Rattle.c_values.specs.Name.{Name}
use Rattle.c_values.specs.Layout.{IsLayout, global_type}
use Rattle.expression_lang.specs.Expression.{Exp}
use Rattle.expression_lang.specs.Sort.{Level, Bytes, Words, Numbers, is_lifted, Kind, Scalar, is_kind, are_kinds, word_sort_of}
use Rattle.expression_lang.specs.Sorted.{result_scalars}
use Rattle.expression_lang.specs.Signature.{Binder, Signature, names_of, kinds_of}
use Rattle.expression_text.specs.Names.{is_name}
use Rattle.expression_text.specs.Lists.{each}
use Rattle.simpl_lang.specs.Command.{SimplFn, SimplUnit}
use Rattle.simpl_lang.specs.Sorted.{IsWellFormed, are_signed, are_fns_sorted}
use Rattle.monad_lang.specs.Program.{Mon}
use Rattle.monad_lang.specs.Form.{is_bytes, is_heaps}
use Rattle.monad_lang.specs.Sorted.{scalars_given, setting_signed}
use Rattle.program_text.specs.MonText.{is_mon}
use Rattle.rule_exn.specs.Eliminated.{exceptions_eliminated}
use Rattle.rule_local.specs.Units.{context_of, outputs_of}
use Rattle.rule_local.specs.Lifted.{locals_lifted}
use Rattle.rule_heap.specs.HeapLifted.{on_heaps, heap_tree}
use Rattle.rule_word.specs.Scopes.{with_kinds, names_in, words, result_as_list}
use Rattle.rule_word.specs.Ready.{is_numbers_level}
use Rattle.rule_word.specs.Table as W
use Rattle.rule_word.proofs.ProgramSorts.{are_inv}
use Rattle.rule_word.proofs.ScopesAfter.{names_after}
use Rattle.polish.specs.Polished.{polished}
use Rattle.rule_text.specs.HeapText as heaps
use Rattle.c_lang.specs.Typed.{TypedUnit}
use Rattle.c_lang.specs.WellTyped.{IsWellTyped}
use Rattle.generation.specs.Generate.{generated}
use Rattle.generation.proofs.WellFormedUnits.{generated_is_well_formed}
use Rattle.pipeline.specs.Ready.{CallsLifted}
use Rattle.acceptance.specs.Certificate.{Steps}
use Rattle.acceptance.specs.Accepted.{is_on_words, word_context, IsHeapStep, IsFunctionAccepted, AreFunctionsAccepted, IsAccepted}
use Rattle.pipeline.specs.Made.{local_made, heap_made, steps_with, all_steps_with, tidy_last, tidy_certificate, begins_at}
use Rattle.pipeline.proofs.MadeSteps.{before_is}
use Rattle.pipeline.proofs.UnitsMade.{results_there}
use Rattle.pipeline.proofs.MadeAccepted.{tidy_is_accepted}
use Rattle.certificate_text.specs.CertificateText.{is_heap, is_function}
use Rattle.made_texts.specs.Few.{binds_few}
use Rattle.made_texts.specs.HasTexts.{HasTexts, AllHaveTexts, UnitHasTexts}
use Rattle.made_texts.proofs.NamesChosen.{AreNames}
use Rattle.made_texts.proofs.ExceptionTexts as E
use Rattle.made_texts.proofs.LocalTexts as L
use Rattle.made_texts.proofs.HeapTexts.{heap_program, heap_few, heap_rules}
use Rattle.made_texts.proofs.WordTexts as WT
use Rattle.made_texts.proofs.PolishTexts as P
use Rattle.made_texts.proofs.BalancedTexts.{balanced_text}
use Rattle.made_texts.proofs.UnitKinds.{AllHaveKinds, First, first_kinds, result_kind, first_and_rest, all_have_kinds, given, wide_calls}

outputs_are_names : (o : Option Kind) → each is_name (outputs_of o) ≡ true
outputs_are_names None = refl
outputs_are_names (Some k) = refl

heap_there : (l : Level) (m : Mon) → is_mon m ≡ true → is_heap l (heap_made (is_lifted l) m) ≡ true
heap_there Bytes m h = refl
heap_there Words m h = and_from (is_mon (on_heaps m)) (heaps.is_tree (heap_tree m)) (heap_program m h) (heap_rules m h)
heap_there Numbers m h = and_from (is_mon (on_heaps m)) (heaps.is_tree (heap_tree m)) (heap_program m h) (heap_rules m h)

-- on typed heaps where the function is lifted
abbrev before_made : Bool → Mon → Mon
before_made b m = cond b (on_heaps m) m

before_text : (b : Bool) (m : Mon) → is_mon m ≡ true → is_mon (before_made b m) ≡ true
before_text true m h = heap_program m h
before_text false m h = h

before_few : (b : Bool) (m : Mon) → binds_few m ≡ true → binds_few (before_made b m) ≡ true
before_few true m h = heap_few m h
before_few false m h = h

before_sorted : (u : SimplUnit) (s : Signature) (m : Mon) (b : Bool) → IsHeapStep u s m b (heap_made b m) →
    is_on_words u s m ≡ true → is_on_words u s (before_made b m) ≡ true
before_sorted u s m true h k = (and_parts (is_on_words u s (on_heaps m)) (is_heaps (on_heaps m)) h.0).0
before_sorted u s m false h k = k

with_names : (xs : List Name) (ks : List Kind) (bs : List Binder) → each is_kind ks ≡ true → are_kinds (kinds_of bs) ≡ true →
    are_kinds (kinds_of (with_kinds xs ks bs)) ≡ true
with_names [] ks bs h k = k
with_names (x ∷ xs) [] bs h k = k
with_names (x ∷ xs) (j ∷ ks) bs h k =
    let p = and_parts (is_kind j) (each is_kind ks) h in
    with_names xs ks (record { name = x; kind = j } ∷ bs) p.1 (and_from (is_kind j) (are_kinds (kinds_of bs)) p.0 k)

module _ (same : Exp → Exp → Bool) (u : SimplUnit) (lay : IsLayout u.layout) (results : AllHaveKinds u.signatures) where
  module _ (f : SimplFn) (s : Signature) (text : HasTexts f) (formed : First f s) where
    abbrev c : Steps
    c = steps_with tidy_last same u f s

    abbrev names : List Binder
    names = with_kinds (names_of s.params) (kinds_of s.params) []

    abbrev n : Mon
    n = before_made (is_lifted f.level) (local_made f s).program

    local_names : AreNames (names_of f.locals)
    local_names = record { names = text.locals; distinct = formed.distinct; few = text.few }

    exception_texts : E.HaveTexts (exceptions_eliminated f.body)
    exception_texts = E.eliminated_texts f.body text.body

    local_texts : L.HaveTexts (locals_lifted (context_of f s) (exceptions_eliminated f.body).right (outputs_of s.result))
    local_texts =
        L.locals_texts (context_of f s) local_names formed.kinds (exceptions_eliminated f.body).right (outputs_of s.result)
        exception_texts.program (outputs_are_names s.result)

    sorted_there : is_on_words u s n ≡ true →
        scalars_given (words (word_context u) names) n ≡ Some (map word_sort_of (result_as_list s.result))
    sorted_there h =
        ap (λ (ns : Name → Option Scalar). scalars_given (record {
          scope = record { layout = u.layout; names = ns; globals = global_type u.globals };
          functions = u.signatures;
          sort_for = word_sort_of;
        }) n) (sym (names_after word_sort_of (names_of s.params) (kinds_of s.params) []))
        ∙ are_inv (result_scalars word_sort_of s.result)
        (scalars_given (setting_signed word_sort_of u.layout u.globals u.signatures s) n) h
        ∙ ap (λ cs. Some cs) (sym (results_there word_sort_of s.result))

    word_texts : IsFunctionAccepted u f s c → WT.HaveTexts (record { right = c.word.program; tree = c.word.tree })
    word_texts h =
        let gives = before_sorted u s (local_made f s).program (is_lifted f.level) h.heap
        (and_parts (is_on_words u s (local_made f s).program) (is_bytes (local_made f s).program) h.local.formed).0 in
        let taken = subst (λ m. W.Takes (word_context u) names c.word.tree m c.word.program (result_as_list s.result))
        (before_is u f s c refl refl) h.word.takes in
        WT.program_texts same (is_numbers_level f.level) (word_context u) lay (wide_calls u.signatures results)
        (given u.signatures results) (names_in (λ k. k) f.locals) (WT.kind_there f.locals formed.kinds) [] names n
        (result_as_list s.result) (with_names (names_of s.params) (kinds_of s.params) [] (first_kinds s.params f.locals formed.parameters formed.kinds) refl)
        (before_text (is_lifted f.level) (local_made f s).program local_texts.program)
        (before_few (is_lifted f.level) (local_made f s).program local_texts.few)
        (result_kind s.result f.locals formed.result formed.kinds) (sorted_there gives) taken

    function_text : IsFunctionAccepted u f s c → is_function c ≡ true
    function_text h =
        let w = word_texts h in
        let q = polished (begins_at u s) c.word.program in
        let p = P.polished_texts (begins_at u s) c.word.program (record { text = w.program; few = w.few }) in
        and_from _ _
        (and_from _ _ text.name (heap_there f.level (local_made f s).program local_texts.program))
        (and_from _ _ (and_from _ _ exception_texts.program exception_texts.rules)
        (and_from _ _ (and_from _ _ local_texts.program local_texts.rules)
        (and_from _ _ (and_from _ _ w.program w.rules) (and_from _ _ p.program.text (balanced_text q.tree p.rules)))))

  functions_texts : (fs : List SimplFn) (ss : List Signature) → AllHaveTexts fs → are_fns_sorted u fs ≡ true →
      are_signed fs ss ≡ true → AreFunctionsAccepted u fs ss (all_steps_with tidy_last same u fs ss) →
      each is_function (all_steps_with tidy_last same u fs ss) ≡ true
  functions_texts [] ss t h k a = refl
  functions_texts (f ∷ fs) [] t h k a = refl
  functions_texts (f ∷ fs) (s ∷ ss) t h k a =
      let p = first_and_rest u f fs s ss h k in
      and_from (is_function (steps_with tidy_last same u f s)) (each is_function (all_steps_with tidy_last same u fs ss))
      (function_text f s t.0 p.0 a.0) (functions_texts fs ss t.1 p.1 p.2 a.1)

pub unit_texts : (same : Exp → Exp → Bool) (u : SimplUnit) → IsWellFormed u → UnitHasTexts u →
    IsAccepted u (tidy_certificate same u) → each is_function (tidy_certificate same u) ≡ true
unit_texts same u formed text accepted =
    functions_texts same u formed.layout (all_have_kinds u u.functions u.signatures formed.functions formed.signatures)
    u.functions u.signatures text formed.functions formed.signatures accepted

-- of what is generated for a well-typed unit
pub generated_texts : (same : Exp → Exp → Bool) → ((a b : Exp) → same a b ≡ true → a ≡ b) → ((e : Exp) → same e e ≡ true) →
    (u : TypedUnit) → IsWellTyped u → (levels : Name → Level) → CallsLifted levels u.functions →
    UnitHasTexts (generated u levels) → each is_function (tidy_certificate same (generated u levels)) ≡ true
generated_texts same is_same finds u typed levels calls text =
    unit_texts same (generated u levels) (generated_is_well_formed u typed levels) text
    (tidy_is_accepted same is_same finds u typed levels calls)
