-- The last programs of a certificate: those so far, and then those of what is left, are all of them; and of an accepted one they are exact.
use Rattle.std.proofs.Common.{◌≡◌, ℕ, ◌+◌, ◌<◌, List, [], ◌∷◌, ◌++◌, length, drop, slice_get, Some, refl, sym, ap, subst, ◌∙◌, append_assoc, arith}
use Rattle.std.proofs.lemmas.List.{append-nil, drop_all}
use Rattle.c_values.specs.Name.{Name}
use Rattle.expression_lang.specs.Sort.{Level}
use Rattle.expression_lang.specs.Signature.{Signature}
use Rattle.simpl_lang.specs.Command.{SimplUnit}
use Rattle.monad_lang.specs.Program.{FinalFn, FinalUnit}
use Rattle.c_lang.specs.Typed.{TypedUnit}
use Rattle.c_lang.specs.WellTyped.{IsWellTyped}
use Rattle.generation.specs.Generate.{generated}
use Rattle.acceptance.specs.Certificate.{Steps}
use Rattle.acceptance.specs.Accepted.{IsAccepted}
use Rattle.pipeline.specs.Units.{on_numbers, functions_with, last_unit}
use Rattle.pipeline.proofs.AcceptedExact.{accepted_is_exact}
use Rattle.pipeline.proofs.AcceptedSteady.{accepted_is_steady}
use Rattle.unit_translation.proofs.Formed.{last_formed, last_programs, last_forms}
use Rattle.certificate_text.specs.CertificateText.{Certificate}
use Rattle.certificate_text.specs.Answer.{IsCertificateText}
use Rattle.checking.specs.Programs.{AreExactPrograms}
use Rattle.checking.proofs.Dropped.{item_there, from_item}

abbrev pub last_of : List Signature → List Steps → List FinalFn
last_of ss cs = functions_with on_numbers (λ c. c.equal.program) ss cs

pub one_more : (made now whole : List FinalFn) (f : FinalFn) (left ss : List Signature) (s : Signature) (right cs : List Steps) (c : Steps) →
    left ≡ s ∷ ss → right ≡ c ∷ cs → now ≡ made ++ f ∷ [] → f ≡ on_numbers s c.equal.program → made ++ last_of left right ≡ whole →
    now ++ last_of ss cs ≡ whole
one_more made now whole f left ss s right cs c p q pushed same h =
    ap (λ fs. fs ++ last_of ss cs) pushed ∙ append_assoc made (f ∷ []) (last_of ss cs) ∙ ap (λ g. made ++ g ∷ last_of ss cs) same
    ∙ sym (ap (λ x. made ++ last_of x right) p ∙ ap (λ x. made ++ last_of (s ∷ ss) x) q) ∙ h

none_listed : (ss : List Signature) → last_of ss [] ≡ []
none_listed [] = refl
none_listed (s ∷ ss) = refl

pub unsigned_done : (made whole : List FinalFn) (left : List Signature) (right : List Steps) → left ≡ [] → made ++ last_of left right ≡ whole → made ≡ whole
unsigned_done made whole left right none h =
    sym (append-nil made) ∙ sym (ap (λ x. made ++ last_of x right) none) ∙ h

pub unlisted_done : (made whole : List FinalFn) (left : List Signature) (right : List Steps) → right ≡ [] → made ++ last_of left right ≡ whole → made ≡ whole
unlisted_done made whole left right none h =
    sym (ap (λ x. made ++ last_of left x) none ∙ ap (λ x. made ++ x) (none_listed left) ∙ append-nil made) ∙ h

-- along a text, of each certificate that it is of
abbrev pub AreLast : List ℕ → List Signature → List FinalFn → ℕ → List Signature → Type 0
AreLast text all made at left =
    (c : Certificate) → IsCertificateText text c → made ++ last_of left (drop at c.functions) ≡ last_of all c.functions

pub one_more_read : (text : List ℕ) (all : List Signature) (made now : List FinalFn) (f : FinalFn) (at : ℕ) (left ss : List Signature) (s : Signature) →
    left ≡ s ∷ ss → now ≡ made ++ f ∷ [] → ((c : Certificate) → IsCertificateText text c → at < length c.functions) →
    ((c : Certificate) (d : Steps) → IsCertificateText text c → slice_get c.functions at ≡ Some d → f ≡ on_numbers s d.equal.program) →
    AreLast text all made at left → AreLast text all now (at + 1) ss
one_more_read text all made now f at left ss s p pushed many read h c is =
    let (d, there) = item_there c.functions at (many c is) in
    one_more made now (last_of all c.functions) f left ss s (drop at c.functions) (drop (at + 1) c.functions) d p (from_item c.functions at d there)
    pushed (read c d is there) (h c is)

pub all_read : (text : List ℕ) (all : List Signature) (made : List FinalFn) (at : ℕ) (left : List Signature) → AreLast text all made at left →
    (c : Certificate) → IsCertificateText text c → length c.functions ≡ at → made ≡ last_of all c.functions
all_read text all made at left h c is done =
    unlisted_done made (last_of all c.functions) left (drop at c.functions) (drop_all at c.functions (omega (arith, done))) (h c is)

-- of an accepted certificate
pub exact_programs : (u : TypedUnit) (levels : Name → Level) (g : SimplUnit) (cs : List Steps) (v : FinalUnit) → IsWellTyped u → g ≡ generated u levels →
    IsAccepted g cs → v ≡ last_unit g cs → AreExactPrograms u levels v
exact_programs u levels g cs v typed is h same =
    let accepted : IsAccepted (generated u levels) cs = subst (λ (k : SimplUnit). IsAccepted k cs) is h in
    subst (λ (w : FinalUnit). AreExactPrograms u levels w) (sym (same ∙ ap (λ (k : SimplUnit). last_unit k cs) is))
    (record {
      of_unit = last_programs u levels cs typed accepted;
      exact = accepted_is_exact u typed levels cs accepted;
      well_formed = last_formed u levels cs typed accepted;
      formed = last_forms u levels cs typed accepted;
      steady = accepted_is_steady u typed levels cs accepted;
    })
