-- A lifted function of an accepted certificate's last programs calls lifted ones alone.
use Rattle.std.proofs.Common.{◌≡◌, Bool, true, false, cond, List, [], ◌∷◌, Option, Some, None, subst, ap, ◌∙◌}
use Rattle.c_values.specs.Name.{Name, same_name}
use Rattle.c_values.proofs.Options.{none_some, some_is}
use Rattle.expression_lang.specs.Sort.{Level, is_lifted, sort_of_kind}
use Rattle.expression_lang.specs.Signature.{Signature, signature}
use Rattle.simpl_lang.specs.Command.{SimplFn, SimplUnit}
use Rattle.monad_lang.specs.Program.{Mon, FinalFn, final_fn}
use Rattle.rule_local.specs.Units.{context_of, outputs_of}
use Rattle.rule_heap.specs.Rule as H
use Rattle.monad_lang.specs.Calls as Programs
use Rattle.rule_word.specs.Units.{in_scope}
use Rattle.rule_word.specs.Scopes.{result_as_list}
use Rattle.rule_eq.specs.Table.{point}
use Rattle.monad_lang.specs.Sorted.{setting_signed}
use Rattle.c_lang.specs.Typed.{TypedFn, TypedUnit}
use Rattle.generation.specs.Generate.{function_of, signature_of, generated}
use Rattle.acceptance.specs.Certificate.{Step, Steps, before_words}
use Rattle.acceptance.specs.Accepted.{calls_only, is_lifted_there, word_context, IsHeapStep, IsFunctionAccepted, AreFunctionsAccepted, IsAccepted}
use Rattle.pipeline.specs.Units.{on_numbers, functions_with, last_unit}
use Rattle.pipeline.proofs.CallsTaken.{flat_calls, local_calls}
use Rattle.pipeline.proofs.Signed.{made, signed}
use Rattle.exactness.specs.SteadyUnits.{is_on_typed_heaps}
use Rattle.pipeline.proofs.CallsKept.{heap_calls, word_calls, equal_calls}

-- the last programs' functions, of signatures and steps
abbrev last_functions : List Signature → List Steps → List FinalFn
last_functions ss cs = functions_with on_numbers (λ c. c.equal.program) ss cs

-- where there is a signature of a lifted function there is such a function

there_by : (s : Signature) (m : Mon) (o : Option Signature) (q : Option FinalFn) →
    (is_lifted_there o ≡ true → is_on_typed_heaps q ≡ true) → (b : Bool) →
    is_lifted_there (cond b (Some s) o) ≡ true →
    is_on_typed_heaps (cond b (Some (on_numbers s m)) q) ≡ true
there_by s m o q rest true h = h
there_by s m o q rest false h = rest h

there : (u : SimplUnit) (fs : List SimplFn) (ss : List Signature) (cs : List Steps) →
    AreFunctionsAccepted u fs ss cs → (x : Name) → is_lifted_there (signature ss x) ≡ true →
    is_on_typed_heaps (final_fn (last_functions ss cs) x) ≡ true
there u [] [] [] a x h = h
there u (f ∷ fs) (s ∷ ss) (c ∷ cs) a x h =
    there_by s c.equal.program (signature ss x) (final_fn (last_functions ss cs) x)
    (there u fs ss cs a.1 x) (same_name s.name x) h
there u _ _ _ a x h = absurd a

-- Calls pass any test that passes where there is a signature of a lifted function.

module _ (u : TypedUnit) (levels : Name → Level) (passes : Name → Bool)
    (implies : (x : Name) →
    is_lifted_there (signature (generated u levels).signatures x) ≡ true → passes x ≡ true) where
  abbrev unit : SimplUnit
  unit = generated u levels

  -- the commands and the signatures that are generated of functions
  abbrev commands : List TypedFn → List SimplFn
  commands fs = made u.layout levels fs

  abbrev signatures : List TypedFn → List Signature
  signatures fs = signed u.layout levels fs

  abbrev CallsPass : Mon → Type 0
  CallsPass m = Programs.calls_only passes m ≡ true

  -- on typed heaps, or as they were
  heaps_pass : (s : Signature) (c : Steps) (b : Bool) (o : Option (Step Mon H.Rule)) →
      IsHeapStep unit s c.local.program b o → CallsPass c.local.program →
      CallsPass (before_words (record c { heap = o }))
  heaps_pass s c true (Some step) h k =
      heap_calls passes u.layout [] step.tree c.local.program step.program h.1 k
  heaps_pass s c false None h k = k
  heaps_pass _ _ _ _ h _ = absurd h

  -- of one function
  module _ (f : SimplFn) (s : Signature) (c : Steps) (h : IsFunctionAccepted unit f s c)
      (lifted : is_lifted f.level ≡ true) where
    abbrev lifted_there : Name → Bool
    lifted_there x = is_lifted_there (signature (generated u levels).signatures x)

    command_passes : calls_only lifted_there f.body ≡ true
    command_passes =
        subst (λ b. cond b (calls_only lifted_there f.body) true ≡ true)
        (ap is_lifted h.level ∙ lifted) h.calls

    local_passes : CallsPass c.local.program
    local_passes =
        local_calls passes (context_of f s) c.local.tree c.exception.program c.local.program
        (outputs_of s.result) h.local.takes
        (flat_calls lifted_there passes implies c.exception.tree f.body c.exception.program
        h.exception.takes command_passes)

    word_passes : CallsPass c.word.program
    word_passes =
        word_calls passes (word_context unit)
        (record { facts = []; names = in_scope (on_numbers s c.word.program) }) c.word.tree
        (before_words c) c.word.program (result_as_list s.result) h.word.takes
        (heaps_pass s c (is_lifted c.level) c.heap h.heap local_passes)

    last_passes : CallsPass c.equal.program
    last_passes =
        equal_calls passes
        (point [] (setting_signed sort_of_kind u.layout u.globals (signatures u.functions) s))
        c.equal.tree c.word.program c.equal.program h.equal.takes word_passes

  by_test : (s : Signature) (m : Mon) (f : FinalFn) (o : Option FinalFn) →
      (is_lifted s.level ≡ true → CallsPass m) →
      (o ≡ Some f → is_lifted f.level ≡ true → CallsPass f.body) → (b : Bool) →
      cond b (Some (on_numbers s m)) o ≡ Some f → is_lifted f.level ≡ true → CallsPass f.body
  by_test s m f o one rest true e k =
      subst (λ (h : FinalFn). is_lifted h.level ≡ true → CallsPass h.body) (some_is e) one k
  by_test s m f o one rest false e k = rest e k

  functions_pass : (fs : List TypedFn) (cs : List Steps) →
      AreFunctionsAccepted unit (commands fs) (signatures fs) cs → (x : Name) (f : FinalFn) →
      final_fn (last_functions (signatures fs) cs) x ≡ Some f → is_lifted f.level ≡ true →
      CallsPass f.body
  functions_pass [] [] a x f e = absurd (none_some e)
  functions_pass (t ∷ fs) (c ∷ cs) a x f e =
      let command = function_of u.layout (levels t.name) t in
      let s = signature_of u.layout (levels t.name) t in
      by_test s c.equal.program f (final_fn (last_functions (signatures fs) cs) x)
      (λ k. last_passes command s c a.0 k) (functions_pass fs cs a.1 x f) (same_name t.name x) e
  functions_pass [] (c ∷ cs) a x f e = absurd a
  functions_pass (t ∷ fs) [] a x f e = absurd a

pub lifted_calls : (u : TypedUnit) (levels : Name → Level) (cs : List Steps) →
    IsAccepted (generated u levels) cs → (x : Name) (f : FinalFn) →
    final_fn (last_unit (generated u levels) cs).functions x ≡ Some f → is_lifted f.level ≡ true →
    Programs.calls_only
    (λ y. is_on_typed_heaps (final_fn (last_unit (generated u levels) cs).functions y)) f.body
    ≡ true
lifted_calls u levels cs a x f e k =
    let g = generated u levels in
    functions_pass u levels (λ y. is_on_typed_heaps (final_fn (last_unit g cs).functions y))
    (there g g.functions g.signatures cs a) u.functions cs a x f e k
