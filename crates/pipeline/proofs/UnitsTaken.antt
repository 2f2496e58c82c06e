-- The rules take the units that an accepted certificate makes of a generated unit to each other, one phase after the other.
use Rattle.std.proofs.Common.{◌≡◌, Bool, true, false, cond, List, [], ◌∷◌, map, Option, Some, None, refl, sym, subst, ap, ◌∙◌}
use Rattle.std.proofs.lemmas.Bool.{and_parts}
use Rattle.c_values.specs.Name.{Name}
use Rattle.c_values.specs.Layout.{Layout}
use Rattle.expression_lang.specs.Sort.{Level, is_lifted, sort_of_kind}
use Rattle.expression_lang.specs.Signature.{Signature, signature}
use Rattle.simpl_lang.specs.Command.{SimplFn, SimplUnit}
use Rattle.monad_lang.specs.Program.{Mon, FinalFn}
use Rattle.monad_lang.specs.Form.{is_bytes}
use Rattle.monad_lang.specs.Sorted.{signature_of as signature_made, setting_signed}
use Rattle.rule_local.specs.Units.{context_of, outputs_of, AreLiftedTo}
use Rattle.rule_heap.specs.Rule as H
use Rattle.monad_lang.specs.Calls as Programs
use Rattle.rule_heap.specs.Units as Heaps
use Rattle.rule_word.specs.Table as Words
use Rattle.rule_word.specs.Units.{in_scope, AreAbstractedTo}
use Rattle.rule_word.specs.Scopes.{result_as_list}
use Rattle.rule_eq.specs.Table as Rules
use Rattle.rule_eq.specs.Table.{point}
use Rattle.rule_eq.specs.Units as Equality
use Rattle.rule_local.proofs.UnitsSorted.{sorts_in_words}
use Rattle.rule_local.proofs.UnitsLifted.{words_named}
use Rattle.c_lang.specs.Typed.{TypedFn, TypedUnit}
use Rattle.generation.specs.Generate.{function_of, signature_of, generated}
use Rattle.exactness.specs.Exact.{ArePrograms}
use Rattle.pipeline.proofs.KindsFor.{word_of_result}
use Rattle.acceptance.specs.Certificate.{Step, Steps, before_words}
use Rattle.acceptance.specs.Accepted.{calls_only, is_lifted_there, IsHeapStep, IsFunctionAccepted, AreFunctionsAccepted}
use Rattle.pipeline.proofs.TranslatedExact.{same_results}
use Rattle.pipeline.specs.Units.{flat_functions, on_words, on_numbers, functions_with}
use Rattle.pipeline.proofs.CallsTaken.{flat_calls, local_calls}
use Rattle.pipeline.proofs.Signed.{made, signed, lifted_level}

abbrev AreAccepted : SimplUnit → Layout → (Name → Level) → List TypedFn → List Steps → Type 0
AreAccepted u l levels fs cs = AreFunctionsAccepted u (made l levels fs) (signed l levels fs) cs

-- Locals

module _ (u : SimplUnit) (l : Layout) (levels : Name → Level) where
  pub locals_taken : (fs : List TypedFn) (cs : List Steps) → AreAccepted u l levels fs cs →
      AreLiftedTo (flat_functions (made l levels fs) cs) (signed l levels fs)
      (functions_with on_words (λ c. c.local.program) (signed l levels fs) cs)
  locals_taken [] [] h = tt
  locals_taken (f ∷ fs) (c ∷ cs) h = (
    record {
      signed = refl;
      name = refl;
      parameters = words_named (signature_of l (levels f.name) f).params;
      tree = c.local.tree;
      takes = h.0.local.takes;
    },
    locals_taken fs cs h.1,
  )
  locals_taken [] (c ∷ cs) h = absurd h
  locals_taken (f ∷ fs) [] h = absurd h

-- Heaps

module _ (u : SimplUnit) (s : Signature) (levels : Name → Level) (c : Steps) where
  -- a lifted function's program is on bytes and calls lifted functions alone
  abbrev IsOnBytes : Type 0
  IsOnBytes = (is_bytes c.local.program ≡ true) × (Programs.calls_only (λ x. is_lifted (levels x)) c.local.program ≡ true)

  body_taken : (b : Bool) (o : Option (Step Mon H.Rule)) → IsHeapStep u s c.local.program b o →
      (b ≡ true → IsOnBytes) →
      Heaps.IsTakenWhere b u.layout levels c.local.program (before_words (record c { heap = o }))
  body_taken true (Some step) h k = record { tree = step.tree; takes = h.1; bytes = (k refl).0; calls = (k refl).1 }
  body_taken false None h k = refl
  body_taken _ _ h _ = absurd h

module _ (u : TypedUnit) (levels : Name → Level) where
  calls_where_lifted : (f : TypedFn) (c : Steps) →
      IsFunctionAccepted (generated u levels) (function_of u.layout (levels f.name) f) (signature_of u.layout (levels f.name) f) c →
      is_lifted c.level ≡ true → Programs.calls_only (λ x. is_lifted (levels x)) c.local.program ≡ true
  calls_where_lifted f c h e =
      let s = signature_of u.layout (levels f.name) f in
      let g = function_of u.layout (levels f.name) f in
      let lifted : Name → Bool = λ x. is_lifted_there (signature (generated u levels).signatures x) in
      let generated_calls : calls_only lifted g.body ≡ true =
      subst (λ b. cond b (calls_only lifted g.body) true ≡ true) e h.calls in
      local_calls (λ x. is_lifted (levels x)) (context_of g s) c.local.tree c.exception.program c.local.program
      (outputs_of s.result) h.local.takes
      (flat_calls lifted (λ x. is_lifted (levels x)) (lifted_level u.layout levels u.functions) c.exception.tree g.body
      c.exception.program h.exception.takes generated_calls)

  pub heaps_taken : (fs : List TypedFn) (cs : List Steps) → AreAccepted (generated u levels) u.layout levels fs cs →
      Heaps.AreTakenTo u.layout levels (functions_with on_words (λ c. c.local.program) (signed u.layout levels fs) cs)
      (functions_with on_words before_words (signed u.layout levels fs) cs)
  heaps_taken [] [] h = tt
  heaps_taken (f ∷ fs) (c ∷ cs) h = (
    record {
      level = refl;
      name = refl;
      same_level = refl;
      parameters = refl;
      results = refl;
      body = subst (λ b. Heaps.IsTakenWhere b u.layout levels c.local.program (before_words c))
          (ap is_lifted h.0.level)
          (body_taken (generated u levels) (signature_of u.layout (levels f.name) f) levels c (is_lifted c.level) c.heap h.0.heap
          (λ e. ((and_parts _ _ h.0.local.formed).1, calls_where_lifted f c h.0 e)));
    },
    heaps_taken fs cs h.1,
  )
  heaps_taken [] (c ∷ cs) h = absurd h
  heaps_taken (f ∷ fs) [] h = absurd h

-- Words, over the signatures of the unit

module _ (u : SimplUnit) (functions : List Signature) (same : functions ≡ u.signatures) where
  pub words_taken : (fs : List SimplFn) (ss : List Signature) (cs : List Steps) → AreFunctionsAccepted u fs ss cs →
      AreAbstractedTo (record { layout = u.layout; globals = u.globals; functions = functions })
      (functions_with on_words before_words ss cs) (functions_with on_numbers (λ c. c.word.program) ss cs)
  words_taken [] [] [] h = tt
  words_taken (f ∷ fs) (s ∷ ss) (c ∷ cs) h = (
    record {
      name = refl;
      level = refl;
      parameters = words_named s.params;
      words = sorts_in_words s.params;
      results = word_of_result s.result;
      tree = c.word.tree;
      takes = subst (λ gs. Words.Takes (record { layout = u.layout; globals = u.globals; functions = gs })
          (in_scope (on_numbers s c.word.program)) c.word.tree (before_words c) c.word.program (result_as_list s.result))
          (sym same) h.0.word.takes;
    },
    words_taken fs ss cs h.1,
  )
  words_taken _ _ _ h = absurd h

  pub equal_taken : (words : List FinalFn) → map signature_made words ≡ functions →
      (fs : List SimplFn) (ss : List Signature) (cs : List Steps) → AreFunctionsAccepted u fs ss cs →
      Equality.AreTakenTo (record { layout = u.layout; globals = u.globals; functions = words })
      (functions_with on_numbers (λ c. c.word.program) ss cs) (functions_with on_numbers (λ c. c.equal.program) ss cs)
  equal_taken words e [] [] [] h = tt
  equal_taken words e (f ∷ fs) (s ∷ ss) (c ∷ cs) h = (
    record {
      name = refl;
      level = refl;
      parameters = refl;
      results = refl;
      tree = c.equal.tree;
      takes = subst (λ gs. Rules.Takes (point [] (setting_signed sort_of_kind u.layout u.globals gs s)) c.equal.tree
          c.word.program c.equal.program) (sym (e ∙ same)) h.0.equal.takes;
    },
    equal_taken words e fs ss cs h.1,
  )
  equal_taken words e _ _ _ h = absurd h

-- The last programs are the functions' at their levels.

pub last_are_programs : (u : SimplUnit) (l : Layout) (levels : Name → Level) (fs : List TypedFn) (cs : List Steps) →
    AreAccepted u l levels fs cs →
    ArePrograms l.target levels fs (functions_with on_numbers (λ c. c.equal.program) (signed l levels fs) cs)
last_are_programs u l levels [] [] h = tt
last_are_programs u l levels (f ∷ fs) (c ∷ cs) h = (
  record { name = refl; at_level = refl; params = refl; results = same_results (signature_of l (levels f.name) f).result },
  last_are_programs u l levels fs cs h.1,
)
last_are_programs u l levels [] (c ∷ cs) h = absurd h
last_are_programs u l levels (f ∷ fs) [] h = absurd h
