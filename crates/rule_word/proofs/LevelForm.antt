-- The form of a level's programs after the phase, where they had the form before it.
use Rattle.std.proofs.Common.{◌≡◌, Bool, true, false, not, List, [], Option, refl}
use Rattle.std.proofs.lemmas.Bool.{and_from, not-true, not_from_false}
use Rattle.c_values.specs.Name.{Name}
use Rattle.expression_lang.specs.Expression as X
use Rattle.expression_lang.specs.Expression.{Exp}
use Rattle.expression_lang.specs.Form.{is_word_arithmetic, is_load, is_read}
use Rattle.expression_lang.specs.Sort.{Kind, Level, Bytes, Words as AtWords, Numbers}
use Rattle.expression_lang.specs.Signature.{Binder}
use Rattle.monad_lang.specs.Form.{program_has, no_place, is_stored, is_written, is_heaps}
use Rattle.monad_lang.specs.Program.{Mon}
use Rattle.rule_word.specs.Rule.{Context}
use Rattle.rule_word.specs.ProgramsAbstracted.{program_abstracted}
use Rattle.rule_word.specs.Ready.{is_numbers_level, program_ready, is_form_of, is_heap_form_of}
use Rattle.rule_word.proofs.AbstractedForm.{looks_at_heap}
use Rattle.rule_word.proofs.ProgramsForm.{program_clean}

no_load : (e : Exp) → looks_at_heap e ≡ false → is_load e ≡ false
no_load (X.Load t p path) h = absurd cc
no_load e h = refl

no_read : (e : Exp) → looks_at_heap e ≡ false → is_read e ≡ false
no_read (X.Read t p path) h = absurd cc
no_read e h = refl

module _ (same : Exp → Exp → Bool) (ctx : Context) (table : Name → Option Kind) (names : List Binder) (m : Mon) (ks : List Kind) where
  abbrev right : Bool → Mon
  right numbers = (program_abstracted same numbers ctx table [] names m ks).right

  pub form_kept : (level : Level) → program_ready same (is_numbers_level level) ctx table [] names m ks ≡ true → is_heap_form_of level m ≡ true → is_form_of level (program_abstracted same (is_numbers_level level) ctx table [] names m ks).right ≡ true
  form_kept Bytes r h =
      let c = program_clean is_read no_read (λ t u p q path way k. refl) (λ t u p q path way k. absurd (true_false k)) is_written (λ t u p q path way k. refl) (λ t u p q path way k. absurd (true_false k)) (λ x y path way k. refl) false same ctx table [] names m ks r
      (not-true (program_has is_read is_written m) h) in
      not_from_false (program_has is_read is_written (right false)) c.heap
    where
      true_false : true ≡ false → ⊥
      true_false k = cc
  form_kept AtWords r h =
      let c = program_clean is_load no_load (λ t u p q path way k. absurd (true_false k)) (λ t u p q path way k. refl) is_stored (λ t u p q path way k. absurd (true_false k)) (λ t u p q path way k. refl) (λ x y path way k. refl) false same ctx table [] names m ks r
      (not-true (program_has is_load is_stored m) h) in
      not_from_false (program_has is_load is_stored (right false)) c.heap
    where
      true_false : true ≡ false → ⊥
      true_false k = cc
  form_kept Numbers r h =
      let c = program_clean is_load no_load (λ t u p q path way k. absurd (true_false k)) (λ t u p q path way k. refl) is_stored (λ t u p q path way k. absurd (true_false k)) (λ t u p q path way k. refl) (λ x y path way k. refl) true same ctx table [] names m ks r
      (not-true (program_has is_load is_stored m) h) in
      and_from (is_heaps (right true)) (not (program_has is_word_arithmetic no_place (right true))) (not_from_false (program_has is_load is_stored (right true)) c.heap) (not_from_false (program_has is_word_arithmetic no_place (right true)) (c.arithmetic refl))
    where
      true_false : true ≡ false → ⊥
      true_false k = cc
