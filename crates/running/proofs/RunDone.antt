-- Where a certificate is accepted, and a text is that of a memory whose turns are within the limit and whose tags can lie there, the function is run.
use Rattle.std.proofs.Common.{◌≡◌, ℕ, ◌+◌, ◌≤◌, ◌<◌, List, [], Option, Some, None, ◌⊎◌, inl, inr, refl, sym, ap, subst, ◌∙◌, arith}
use Rattle.std.specs.Prelude.{take}
use Rattle.ac_sx.specs.Tree.{deepest}
use Rattle.ac_sx.specs.Front.{nesting}
use Rattle.ac_sx.proofs.Built.{one_file}
use Rattle.ac_sx.proofs.Answered.{file_is_shallow}
use Rattle.c_values.specs.Types.{Target}
use Rattle.c_lang.specs.Typed.{TypedUnit}
use Rattle.c_memory.specs.TagFault.{first_fault}
use Rattle.c_memory.specs.declared.faults.HeapFault.{HeapFault}
use Rattle.expression_text.specs.declared.fault.TextFault.{TextFault}
use Rattle.expression_text.specs.declared.fault.TextFault.TheVariants as F
use Rattle.expression_text.proofs.Behind.{behind, value_ok}
use Rattle.certificate_text.specs.CertificateText.{Certificate}
use Rattle.memory_text.specs.MemoryText.{Memory, memory_tree, most_turns}
use Rattle.memory_text.specs.MemoryReading.{memory_at}
use Rattle.memory_text.specs.Answer.{IsMemoryText, IsFaultOf}
use Rattle.memory_text.specs.declared.fault.MemoryFault.TheVariants as M
use Rattle.memory_text.proofs.MemoryLaws.{memory_reads}
use Rattle.answers.specs.declared.status.Status.{Status}
use Rattle.answers.specs.declared.status.Status.TheVariants.{Done, No, Text, Limit}
use Rattle.checking.specs.Checked.{IsAcceptedText}
use Rattle.checking.proofs.AcceptedText.{accepted_is_done}
use Rattle.running.specs.Ran.{IsNoMemory, IsBadlyTagged, HasTooManyTurns, IsRan}

module _ (unit : TypedUnit) (text : List ℕ) (m : Memory) (is : IsMemoryText unit text m) where
  one_memory : (d : Memory) → IsMemoryText unit text d → d ≡ m
  one_memory d h =
      let e : memory_tree d ≡ memory_tree m = one_file (memory_tree d) (memory_tree m) h.0.atoms is.0.atoms (sym h.0.spelled ∙ is.0.spelled) in
      value_ok d (behind 0 (memory_tree d)) m (behind 0 (memory_tree m))
      (sym (memory_reads unit d h.1 0) ∙ ap (memory_at unit 0) e ∙ memory_reads unit m is.1 0)

  no_fault : (fault : TextFault) → IsFaultOf unit text (M.Text fault) → (fault ≡ F.Memory → ⊥) → ⊥
  no_fault F.NotText k other = k.1.0.no_file (memory_tree m, is.0.atoms, is.0.spelled)
  no_fault F.Deep k other =
      let shallow = subst (λ t. nesting (take (k.0 + 1) t) ≤ deepest) (sym is.0.spelled) (file_is_shallow (memory_tree m) is.0.atoms is.0.depth (k.0 + 1)) in
      let deep = k.1.deep in
      omega (arith, shallow, deep)
  no_fault (F.Shape n) k other =
      let e : k.0 ≡ memory_tree m = one_file k.0 (memory_tree m) k.1.atoms is.0.atoms (sym k.1.spelled ∙ is.0.spelled) in
      let read = ap (memory_at unit 0) e ∙ memory_reads unit m is.1 0 in
      let bad = k.2 in
      absurd cc
  no_fault F.Memory k other = other refl

  is_memory_text : (lines : List ℕ) → IsNoMemory unit text lines → ⊥
  is_memory_text lines h = no_fault h.fault h.cause h.not_memory

  few_turns : m.turns ≤ most_turns → (lines : List ℕ) → HasTooManyTurns unit text lines → ⊥
  few_turns within lines h =
      let e = one_memory h.cause.0 h.cause.1 in
      let many : most_turns < m.turns = subst (λ (d : Memory). most_turns < d.turns) e h.cause.2 in
      omega (arith, within, many)

  no_bad_tag : (o : Option HeapFault) (fault : HeapFault) → o ≡ None → o ≡ Some fault → ⊥
  no_bad_tag o fault e h = absurd cc

  are_tags : first_fault unit.layout [] 0 m.tags ≡ None → (lines : List ℕ) → IsBadlyTagged unit text lines → ⊥
  are_tags sound lines h =
      no_bad_tag (first_fault unit.layout [] 0 m.tags) h.fault sound
      (subst (λ (d : Memory). first_fault unit.layout [] 0 d.tags ≡ Some h.fault) (one_memory h.memory h.text.is_text) h.first)

  module _ (target : Target) (certificate : List ℕ) (c : Certificate) (accepted : IsAcceptedText target certificate unit c) (within : m.turns ≤ most_turns)
      (sound : first_fault unit.layout [] 0 m.tags ≡ None) where
    bad_text : (lines : List ℕ) → IsNoMemory unit text lines ⊎ IsBadlyTagged unit text lines → ⊥
    bad_text lines (inl h) = is_memory_text lines h
    bad_text lines (inr h) = are_tags sound lines h

    pub runs_are_done : (status : Status) (lines : List ℕ) → IsRan target certificate text unit status lines → status ≡ Done
    runs_are_done Done lines h = refl
    runs_are_done No lines h = accepted_is_done target certificate unit c accepted No lines h
    runs_are_done Limit lines h = absurd (few_turns within lines h.answer)
    runs_are_done Text lines (inl h) = accepted_is_done target certificate unit c accepted Text lines h
    runs_are_done Text lines (inr h) = absurd (bad_text lines h.answer)
    runs_are_done _ _ h = absurd h
