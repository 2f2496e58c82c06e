-- What is shown of a certificate's text, by what the text comes to.
use Rattle.std.proofs.Common.{◌≡◌, ℕ, ◌<◌, ◌^◌, List, length, Option, Some, None, Ok, Err, sym, subst, arith}
use Rattle.c_values.specs.Name.{Name}
use Rattle.c_values.specs.Types.{Target}
use Rattle.simpl_lang.specs.Command.{SimplUnit}
use Rattle.c_lang.specs.Typed.{TypedUnit}
use Rattle.c_lang.specs.WellTyped.{IsWellTyped}
use Rattle.generation.specs.Generate.{generated}
use Rattle.rule_trees.specs.RuleTree.{last_number}
use Rattle.acceptance.specs.Verdict.{Place}
use Rattle.acceptance.specs.UnitVerdict.{UnitAnswer, of_function, IsUnitVerdict}
use Rattle.acceptance.proofs.UnitVerdicts.{unit_verdicts_are_one}
use Rattle.certificate_text.specs.CertificateText.{Certificate}
use Rattle.certificate_text.specs.Answer.{IsCertificateText}
use Rattle.certificate_text.proofs.Located.{one_certificate}
use Rattle.checking.specs.Checked.{level_in, apart, target_for}
use Rattle.checking.specs.Refused.{Refused, IsAnswer}
use Rattle.checking.specs.RefusedPart.{IsRefusedAt, IsShown}
use Rattle.checking.specs.CodeParts.{IsShownAt, IsShownOf}
use Rattle.checking.proofs.Answered.{judged_answer}
use Rattle.checking.proofs.Decided.{at_levels, none_differ}
use Rattle.checking.proofs.RefusedPlaces.{placed}

never_both : {x : _} {A : Type 0} → ◌≡◌ {A = UnitAnswer} (Ok tt) (Err x) → A
never_both e = cc

module _ (target : Target) (text : List ℕ) (unit : TypedUnit) where
  -- nothing, where no certificate is refused
  nothing : ((c : Certificate) (at : ℕ) (place : Place) → IsRefusedAt target text unit c at place → ⊥) → IsShown target text unit None
  nothing never c at place h = absurd (never c at place h)

  module _ (d : Certificate) (is : IsCertificateText text d) where
    -- a certificate that is refused is this one
    this : (c : Certificate) (at : ℕ) (place : Place) → IsRefusedAt target text unit c at place → IsRefusedAt target text unit d at place
    this c at place h = subst (λ x. IsRefusedAt target text unit x at place) (one_certificate text c d h.is_text is) h

    pub differs : (p : ℕ × Name) → apart unit d.functions ≡ Some p → IsShown target text unit None
    differs p e = nothing (λ c at place h. let none = (this c at place h).listed in absurd cc)

    module _ (same : target_for d.version ≡ target) (listed : apart unit d.functions ≡ None) (typed : IsWellTyped unit) (g : SimplUnit) (made : g ≡ generated unit (level_in d.functions)) where
      verdict_of : (r : UnitAnswer) → IsUnitVerdict (generated unit (level_in d.functions)) d.functions r → IsUnitVerdict g d.functions r
      verdict_of r v = subst (λ u. IsUnitVerdict u d.functions r) (sym made) v

      pub accepted : IsAnswer g d.functions (Ok tt) → IsShown target text unit None
      accepted h =
          nothing (λ c at place k.
          never_both (unit_verdicts_are_one g d.functions (Ok tt) (Err (of_function at place)) (judged_answer g d.functions (none_differ unit d.functions listed typed g made) (Ok tt) h)
          (verdict_of (Err (of_function at place)) (this c at place k).verdict)))

      pub refused : length d.functions < 2 ^ 32 → (r : Refused) → IsAnswer g d.functions (Err r) → (o : Option (List ℕ)) → IsShownOf g d.functions o → IsShown target text unit o
      refused few r h None shown = λ c at place k.
          let not_below : place.node < last_number → ⊥ = shown at place (verdict_of (Err (of_function at place)) (this c at place k).verdict) in
          omega (arith, not_below)
      refused few r h (Some part) shown =
          let p = placed g d.functions (at_levels unit d.functions listed typed g made) (none_differ unit d.functions listed typed g made) few r h in (
            d,
            r.function,
            p.place,
            record { is_text = is; for_target = same; listed = listed; verdict = subst (λ u. IsUnitVerdict u d.functions (Err (of_function r.function p.place))) made p.verdict },
            λ below. subst (λ u. IsShownAt u d.functions r.function p.place (Some part)) made (shown r.function p.place p.verdict) below,
          )
