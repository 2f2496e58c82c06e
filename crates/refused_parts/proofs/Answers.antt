-- What is found at the place of a verdict is what the place is about.
use Rattle.std.proofs.Common.{◌≡◌, ◌<◌, ℕ, [], Option, Some, None, Err, refl, sym, subst}
use Rattle.std.specs.Prelude.{MatchOption}
use Rattle.std.specs.Option.{option_map}
use Rattle.expression_lang.specs.Sort.{sort_of_kind}
use Rattle.expression_lang.specs.Signature.{Signature, names_of, kinds_of}
use Rattle.simpl_lang.specs.Command.{Simpl, SimplFn, SimplUnit}
use Rattle.monad_lang.specs.Program.{Mon}
use Rattle.monad_lang.specs.Sorted.{setting_signed}
use Rattle.rule_trees.specs.RuleTree.{last_number}
use Rattle.rule_exn.specs.Rule.{◌to◌}
use Rattle.rule_exn.specs.Table as Exceptions
use Rattle.rule_local.specs.Rule.{whole}
use Rattle.rule_local.specs.Table as Locals
use Rattle.rule_local.specs.Units.{context_of, outputs_of}
use Rattle.rule_heap.specs.Rule as H
use Rattle.rule_heap.specs.Table as Heaps
use Rattle.rule_word.specs.Rule as W
use Rattle.rule_word.specs.Table as Words
use Rattle.rule_word.specs.Scopes.{with_kinds, result_as_list}
use Rattle.rule_eq.specs.Rule.{does}
use Rattle.rule_eq.specs.Table as Equality
use Rattle.rule_eq.specs.Table.{point}
use Rattle.acceptance.specs.Certificate.{Step, Steps, before_words}
use Rattle.acceptance.specs.Accepted.{word_context}
use Rattle.acceptance.specs.Verdict as V
use Rattle.acceptance.specs.Verdict.{Place, ◌at◌, IsFunctionVerdict}
use Rattle.acceptance.specs.declared.places.Phase as P
use Rattle.acceptance.specs.declared.places.Place as L
use Rattle.acceptance.specs.CodePlace.{phase_of, place_of}
use Rattle.refused_parts.specs.Lefts.{exception_left, local_left, heap_left, word_left, equal_left}
use Rattle.refused_parts.specs.Parts.{Part, Command, Program, IsOfHeaps, IsPartAt}
use Rattle.refused_parts.specs.CodeInside.{exception_inside, local_inside, heap_inside, word_inside, equal_inside}
use Rattle.refused_parts.specs.CodeWalks.{IsFound}
use Rattle.refused_parts.proofs.CommandSteps.{exception_steps, exception_stays, local_steps, local_stays}
use Rattle.refused_parts.proofs.HeapSteps.{heap_steps, heap_stays}
use Rattle.refused_parts.proofs.WordSteps.{word_steps, word_stays}
use Rattle.refused_parts.proofs.EqualSteps.{equal_steps, equal_stays}
use Rattle.refused_parts.proofs.Walking.{found_part}
use Rattle.refused_parts.proofs.Verdicts.{part_at_verdict}

module _ (Is : Part → Type 0) where
  of_command : (o : Option Simpl) (q : Part) → Is q → ((m : Simpl) → Is (Command m) → o ≡ Some m) → ((m : Mon) → Is (Program m) → ⊥) → MatchOption (option_map Command o) ⊥ Is
  of_command o (Command m) h found other = subst (λ x. MatchOption (option_map Command x) ⊥ Is) (sym (found m h)) h
  of_command o (Program m) h found other = absurd (other m h)

  of_program : (o : Option Mon) (q : Part) → Is q → ((m : Mon) → Is (Program m) → o ≡ Some m) → ((m : Simpl) → Is (Command m) → ⊥) → MatchOption (option_map Program o) ⊥ Is
  of_program o (Program m) h found other = subst (λ x. MatchOption (option_map Program x) ⊥ Is) (sym (found m h)) h
  of_program o (Command m) h found other = absurd (other m h)

module _ (u : SimplUnit) (f : SimplFn) (s : Signature) (c : Steps) where
  -- what is told at the phase of a place is told at the place
  pub at_phase : (place : L.Place) (p : P.Phase) → place.phase ≡ p → (told found : Option Part) → told ≡ found →
      (IsFunctionVerdict u f s c (Err (phase_of p at place.node)) → MatchOption found ⊥ (IsPartAt u f s c (phase_of p at place.node))) →
      IsFunctionVerdict u f s c (Err (place_of place)) → MatchOption told ⊥ (IsPartAt u f s c (place_of place))
  at_phase place p e told found same h v =
      subst (λ x. MatchOption x ⊥ (IsPartAt u f s c (place_of place))) (sym same)
      (subst (λ q. MatchOption found ⊥ (IsPartAt u f s c (phase_of q at place.node))) (sym e) (h (subst (λ q. IsFunctionVerdict u f s c (Err (phase_of q at place.node))) e v)))

module _ (u : SimplUnit) (f : SimplFn) (s : Signature) (c : Steps) (n : ℕ) (l : n < last_number) where
  abbrev IsRefusedAt : V.Phase → Type 0
  IsRefusedAt phase = IsFunctionVerdict u f s c (Err (phase at n))

  abbrev IsPart : V.Phase → Part → Type 0
  IsPart phase q = IsPartAt u f s c (phase at n) q

  pub exception_answer : (o : Option Simpl) → IsFound exception_inside c.exception.tree f.body n o → IsRefusedAt V.Exception → MatchOption (option_map Command o) ⊥ (IsPart V.Exception)
  exception_answer o found v =
      let h = part_at_verdict u f s c (V.Exception at n) v l in
      of_command (IsPart V.Exception) o h.part h.about
      (λ m a. found_part Exceptions.table exception_left exception_inside exception_steps exception_stays c.exception.tree (f.body to c.exception.program) f.body n m o refl a found)
      (λ m a. a)

  pub local_answer : (o : Option Simpl) → IsFound local_inside c.local.tree c.exception.program n o → IsRefusedAt V.Local → MatchOption (option_map Command o) ⊥ (IsPart V.Local)
  local_answer o found v =
      let h = part_at_verdict u f s c (V.Local at n) v l in
      let ctx = context_of f s in
      let left = c.exception.program in
      of_command (IsPart V.Local) o h.part h.about
      (λ m a. found_part (Locals.table ctx) local_left local_inside (local_steps ctx) (local_stays ctx) c.local.tree (whole left c.local.program (outputs_of s.result)) left n m o refl a found)
      (λ m a. a)

  pub heap_answer : (step : Step Mon H.Rule) (o : Option Mon) → c.heap ≡ Some step → IsFound heap_inside step.tree c.local.program n o → IsRefusedAt V.Heap → MatchOption (option_map Program o) ⊥ (IsPart V.Heap)
  heap_answer step o there found v =
      let h = part_at_verdict u f s c (V.Heap at n) v l in
      let left = c.local.program in
      of_program (IsPart V.Heap) o h.part h.about
      (λ m a. found_part (Heaps.table u.layout) heap_left heap_inside (heap_steps u.layout) (heap_stays u.layout) step.tree (H.OfProgram [] left step.program) left n m o refl
      (subst (λ heap. IsOfHeaps u f s c heap n m) there a) found)
      (λ m a. a)

  pub absent_answer : c.heap ≡ None → IsPart V.Heap (Program c.local.program)
  absent_answer none = subst (λ heap. IsOfHeaps u f s c heap n c.local.program) (sym none) refl

  pub word_answer : (o : Option Mon) → IsFound word_inside c.word.tree (before_words c) n o → IsRefusedAt V.Word → MatchOption (option_map Program o) ⊥ (IsPart V.Word)
  word_answer o found v =
      let h = part_at_verdict u f s c (V.Word at n) v l in
      let ctx = word_context u in
      let left = before_words c in
      let start : W.Point = record { facts = []; names = with_kinds (names_of s.params) (kinds_of s.params) [] } in
      of_program (IsPart V.Word) o h.part h.about
      (λ m a. found_part (Words.table ctx) word_left word_inside (word_steps ctx) (word_stays ctx) c.word.tree (W.program start left c.word.program (result_as_list s.result)) left n m o refl a found)
      (λ m a. a)

  pub equal_answer : (o : Option Mon) → IsFound equal_inside c.equal.tree c.word.program n o → IsRefusedAt V.Equal → MatchOption (option_map Program o) ⊥ (IsPart V.Equal)
  equal_answer o found v =
      let h = part_at_verdict u f s c (V.Equal at n) v l in
      let left = c.word.program in
      let start = point [] (setting_signed sort_of_kind u.layout u.globals u.signatures s) in
      of_program (IsPart V.Equal) o h.part h.about
      (λ m a. found_part Equality.table equal_left equal_inside equal_steps equal_stays c.equal.tree (does start left c.equal.program) left n m o refl a found)
      (λ m a. a)
