-- The steps that the translations make of a function are accepted, where each program is well-sorted and ready.
use Rattle.std.proofs.Common.{◌≡◌, Bool, true, false, cond, ◌&&◌, List, [], map, Option, Some, refl, sym, subst, ap, ◌∙◌}
use Rattle.std.proofs.lemmas.Bool.{and_from}
use Rattle.c_values.specs.Name.{Name}
use Rattle.c_values.specs.Layout.{global_type}
use Rattle.expression_lang.specs.Expression.{Exp}
use Rattle.expression_lang.specs.Sort.{Level, Bytes, Words as AtWords, Numbers, is_lifted, Kind, Scalar, word_sort_of}
use Rattle.expression_lang.specs.Signature.{Binder, Signature, names_of, kinds_of}
use Rattle.expression_lang.specs.Sorted.{result_scalars}
use Rattle.simpl_lang.specs.Command.{Simpl, SimplFn, SimplUnit}
use Rattle.simpl_lang.specs.Form.{is_flat}
use Rattle.simpl_lang.specs.Sorted.{is_sorted, scope_of, holds_result}
use Rattle.monad_lang.specs.Program.{Mon}
use Rattle.monad_lang.specs.Form.{is_bytes}
use Rattle.monad_lang.specs.Sorted.{scalars_given, setting_signed}
use Rattle.rule_exn.specs.Rule as X
use Rattle.rule_exn.specs.Table as Exceptions
use Rattle.rule_exn.specs.Eliminated.{exceptions_eliminated}
use Rattle.rule_exn.proofs.EliminatedTaken.{eliminated_taken, eliminated_flat}
use Rattle.rule_local.specs.Rule as L
use Rattle.rule_local.specs.Table as Locals
use Rattle.rule_local.specs.Units.{context_of, outputs_of}
use Rattle.rule_local.proofs.InScope.{sorted_names_locals}
use Rattle.rule_local.proofs.UnitsLifted.{outputs_local}
use Rattle.rule_local.proofs.LiftedWhole.{locals_lifted_taken}
use Rattle.rule_heap.specs.HeapLifted.{on_heaps, IsHeapReady}
use Rattle.rule_heap.proofs.HeapTaken.{program_taken}
use Rattle.rule_word.specs.Rule as W
use Rattle.rule_word.specs.Table as Words
use Rattle.rule_word.specs.Scopes.{names_in, with_kinds, words, result_as_list}
use Rattle.rule_word.specs.ProgramsAbstracted.{AbstractedProgram, program_abstracted, binds_words}
use Rattle.rule_word.specs.Ready.{is_numbers_level, program_ready, is_form_of, is_heap_form_of}
use Rattle.rule_word.proofs.ScopesAfter.{names_after}
use Rattle.rule_word.proofs.ProgramSorts.{are_inv}
use Rattle.rule_word.proofs.ProgramsTaken.{program_taken as words_taken}
use Rattle.rule_word.proofs.LevelForm.{form_kept}
use Rattle.acceptance.specs.Certificate.{Step, Steps, before_words}
use Rattle.acceptance.specs.Accepted.{is_command, is_on_words, is_on_numbers, word_context, IsExceptionStep, IsLocalStep, IsHeapStep, IsWordStep}
use Rattle.pipeline.specs.Made.{exception_made, local_made, heap_made, word_made}
use Rattle.pipeline.specs.Units.{with_body}
use Rattle.pipeline.proofs.UnitsMade.{results_there}
use Rattle.rule_heap.proofs.HeapFormed.{lifted_is_heaps}

-- Exceptions

pub exception_accepted : (u : SimplUnit) (f : SimplFn) (c : Steps) →
    is_sorted (scope_of u f) u.signatures (exceptions_eliminated f.body).right ≡ true → c.exception ≡ exception_made f →
    IsExceptionStep u f c
exception_accepted u f c sorted e = record {
  formed = subst (λ (x : Step Simpl X.Rule). is_command u f x.program && is_flat x.program ≡ true) (sym e)
      (and_from _ _ sorted (eliminated_flat f.body));
  takes = subst (λ (x : Step Simpl X.Rule). Exceptions.Takes x.tree f.body x.program) (sym e) (eliminated_taken f.body);
}

-- Locals

module _ (u : SimplUnit) (f : SimplFn) (s : Signature) (c : Steps) where
  local_taken : is_sorted (scope_of u f) u.signatures (exceptions_eliminated f.body).right ≡ true →
      holds_result s.result f.locals ≡ true →
      Locals.TakesWhole (context_of f s) (local_made f s).tree (exceptions_eliminated f.body).right (local_made f s).program
      (outputs_of s.result)
  local_taken sorted held =
      locals_lifted_taken (context_of f s) (exceptions_eliminated f.body).right (outputs_of s.result) (eliminated_flat f.body)
      (λ y. sorted_names_locals u (with_body f (exceptions_eliminated f.body).right) y sorted)
      (outputs_local s.result f.locals held)

  pub local_accepted : is_sorted (scope_of u f) u.signatures (exceptions_eliminated f.body).right ≡ true →
      holds_result s.result f.locals ≡ true → is_on_words u s (local_made f s).program ≡ true →
      is_bytes (local_made f s).program ≡ true → c.exception ≡ exception_made f → c.local ≡ local_made f s →
      IsLocalStep u f s c
  local_accepted sorted held gives bytes e d = record {
    formed = subst (λ (x : Step Mon L.Rule). is_on_words u s x.program && is_bytes x.program ≡ true) (sym d)
        (and_from _ _ gives bytes);
    takes = subst (λ (x : Step Mon L.Rule). Locals.TakesWhole (context_of f s) x.tree c.exception.program x.program
        (outputs_of s.result)) (sym d)
        (subst (λ (x : Step Simpl X.Rule). Locals.TakesWhole (context_of f s) (local_made f s).tree x.program
        (local_made f s).program (outputs_of s.result)) (sym e) (local_taken sorted held));
  }

-- Heaps

heap_there : (u : SimplUnit) (s : Signature) (m : Mon) (b : Bool) → (b ≡ true → IsHeapReady u.layout [] m) →
    is_on_words u s (cond b (on_heaps m) m) ≡ true → IsHeapStep u s m b (heap_made b m)
heap_there u s m true ready gives = (and_from _ _ gives (lifted_is_heaps m), program_taken u.layout m [] (ready refl))
heap_there u s m false ready gives = tt

module _ (u : SimplUnit) (f : SimplFn) (s : Signature) (c : Steps) (d : c.local ≡ local_made f s)
    (h : c.heap ≡ heap_made (is_lifted f.level) c.local.program) where
  pub heap_accepted : c.level ≡ f.level → (is_lifted f.level ≡ true → IsHeapReady u.layout [] (local_made f s).program) →
      is_on_words u s (cond (is_lifted f.level) (on_heaps (local_made f s).program) (local_made f s).program) ≡ true →
      IsHeapStep u s c.local.program (is_lifted c.level) c.heap
  heap_accepted e ready gives =
      subst (λ v. IsHeapStep u s c.local.program (is_lifted v) c.heap) (sym e)
      (subst (λ o. IsHeapStep u s c.local.program (is_lifted f.level) o) (sym h)
      (subst (λ (x : Step Mon L.Rule). IsHeapStep u s x.program (is_lifted f.level) (heap_made (is_lifted f.level) x.program))
      (sym d) (heap_there u s (local_made f s).program (is_lifted f.level) ready gives)))

  before_made : (b : Bool) →
      before_words (record c { heap = heap_made b c.local.program }) ≡ cond b (on_heaps c.local.program) c.local.program
  before_made true = refl
  before_made false = refl

  -- the program before words become numbers
  pub before_is : before_words c
      ≡ cond (is_lifted f.level) (on_heaps (local_made f s).program) (local_made f s).program
  before_is =
      ap (λ o. before_words (record c { heap = o })) h ∙ before_made (is_lifted f.level)
      ∙ ap (λ (x : Step Mon L.Rule). cond (is_lifted f.level) (on_heaps x.program) x.program) d

-- Words

pub heap_form : (level : Level) (m : Mon) → is_bytes m ≡ true →
    is_heap_form_of level (cond (is_lifted level) (on_heaps m) m) ≡ true
heap_form Bytes m h = h
heap_form AtWords m h = lifted_is_heaps m
heap_form Numbers m h = lifted_is_heaps m

module _ (same : Exp → Exp → Bool) (is_same : (a b : Exp) → same a b ≡ true → a ≡ b) (u : SimplUnit) (f : SimplFn)
    (s : Signature) where
  abbrev names : List Binder
  names = with_kinds (names_of s.params) (kinds_of s.params) []

  abbrev table : Name → Option Kind
  table = names_in (λ k. k) f.locals

  abbrev pub made_at : W.Context → Mon → AbstractedProgram
  made_at ctx n = program_abstracted same (is_numbers_level f.level) ctx table [] names n (result_as_list s.result)

  -- in a context what is made is of the form of the function's level, and the rules take the program to it
  abbrev pub IsThere : W.Context → Mon → Type 0
  IsThere ctx n =
      (is_on_numbers u s (made_at ctx n).right && is_form_of f.level (made_at ctx n).right ≡ true)
      × Words.Takes ctx names (made_at ctx n).tree n (made_at ctx n).right (result_as_list s.result)

  sorted_there : (n : Mon) → is_on_words u s n ≡ true →
      scalars_given (words (word_context u) names) n ≡ Some (map word_sort_of (result_as_list s.result))
  sorted_there n h =
      ap (λ (ns : Name → Option Scalar). scalars_given (record {
        scope = record { layout = u.layout; names = ns; globals = global_type u.globals };
        functions = u.signatures;
        sort_for = word_sort_of;
      }) n) (sym (names_after word_sort_of (names_of s.params) (kinds_of s.params) []))
      ∙ are_inv (result_scalars word_sort_of s.result)
      (scalars_given (setting_signed word_sort_of u.layout u.globals u.signatures s) n) h
      ∙ ap (λ cs. Some cs) (sym (results_there word_sort_of s.result))

  pub word_there : (ctx : W.Context) → ctx ≡ word_context u → (n : Mon) → is_on_words u s n ≡ true →
      is_on_numbers u s (made_at ctx n).right ≡ true →
      program_ready same (is_numbers_level f.level) ctx table [] names n (result_as_list s.result) ≡ true →
      is_heap_form_of f.level n ≡ true → binds_words (words ctx names) n ≡ true → IsThere (word_context u) n
  word_there ctx e n gives numbers ready form binds =
      subst (λ c. IsThere c n) e (
        and_from _ _ numbers (form_kept same ctx table names n (result_as_list s.result) f.level ready form),
        words_taken ctx same is_same (is_numbers_level f.level) table [] names n (result_as_list s.result)
            (subst (λ c. scalars_given (words c names) n ≡ Some (map word_sort_of (result_as_list s.result))) (sym e)
            (sorted_there n gives)) binds,
      )

  pub word_accepted : (c : Steps) (n : Mon) → c.level ≡ f.level → before_words c ≡ n →
      c.word ≡ word_made same u f s (before_words c) → IsThere (word_context u) n → IsWordStep u s c
  word_accepted c n level before w there =
      let t = subst (λ m. IsThere (word_context u) m) (sym before) there in
      record {
        formed = subst (λ v. is_on_numbers u s c.word.program && is_form_of v c.word.program ≡ true) (sym level)
            (subst (λ (x : Step Mon W.Rule). is_on_numbers u s x.program && is_form_of f.level x.program ≡ true) (sym w) t.0);
        takes = subst (λ (x : Step Mon W.Rule). Words.Takes (word_context u) names x.tree (before_words c) x.program
            (result_as_list s.result)) (sym w) t.1;
      }
