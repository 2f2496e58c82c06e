-- One function further along a text: what is known of the whole certificate is known of what is left of it.
use Rattle.std.proofs.Common.{◌≡◌, ℕ, ◌+◌, ◌<◌, true, List, [], ◌∷◌, length, drop, slice_get, Some, Ok, Err, refl, sym, subst, arith}
use Rattle.std.proofs.lemmas.List.{drop_all}
use Rattle.std.proofs.lemmas.Bool.{false≢true}
use Rattle.expression_lang.specs.Signature.{Signature}
use Rattle.simpl_lang.specs.Command.{SimplFn, SimplUnit}
use Rattle.acceptance.specs.Certificate.{Steps}
use Rattle.acceptance.specs.CodeReady.{are_ready}
use Rattle.acceptance.specs.Verdict.{Place, IsFunctionVerdict}
use Rattle.acceptance.specs.UnitVerdict.{UnitAnswer, of_function, AreFunctionsVerdict}
use Rattle.acceptance.proofs.WellFormed.{ready_parts}
use Rattle.acceptance.proofs.Along.{refused_here, whole_on}
use Rattle.certificate_text.specs.CertificateText.{Certificate}
use Rattle.certificate_text.specs.Answer.{IsCertificateText}
use Rattle.checking.proofs.Dropped.{item_there, from_item}

-- A verdict on what is left, from a position on, is one on the whole, of each certificate that the text is of.
abbrev pub IsLeft : SimplUnit → List ℕ → ℕ → List SimplFn → List Signature → Type 0
IsLeft u text at left signed =
    (c : Certificate) → IsCertificateText text c → (r : UnitAnswer) → AreFunctionsVerdict u at left signed (drop at c.functions) r →
    AreFunctionsVerdict u 0 u.functions u.signatures c.functions r

pub all_left : (u : SimplUnit) (text : List ℕ) (left : List SimplFn) (signed : List Signature) → left ≡ u.functions → signed ≡ u.signatures →
    IsLeft u text 0 left signed
all_left u text left signed p q c is r h =
    subst (λ fs. AreFunctionsVerdict u 0 fs u.signatures c.functions r) p (subst (λ ss. AreFunctionsVerdict u 0 left ss c.functions r) q h)

pub ready_left : (left fs : List SimplFn) (f : SimplFn) (signed ss : List Signature) (s : Signature) → left ≡ f ∷ fs → signed ≡ s ∷ ss →
    are_ready left signed ≡ true → are_ready fs ss ≡ true
ready_left left fs f signed ss s p q h =
    (ready_parts f s fs ss (subst (λ ys. are_ready (f ∷ fs) ys ≡ true) q (subst (λ xs. are_ready xs signed ≡ true) p h))).2

module _ (u : SimplUnit) (text : List ℕ) (at : ℕ) (left fs : List SimplFn) (f : SimplFn) (signed ss : List Signature) (s : Signature)
    (p : left ≡ f ∷ fs) (q : signed ≡ s ∷ ss) (is_left : IsLeft u text at left signed)
    (many : (c : Certificate) → IsCertificateText text c → at < length c.functions) where
  pub refused_left : (place : Place) →
      ((c : Certificate) (d : Steps) → IsCertificateText text c → slice_get c.functions at ≡ Some d → IsFunctionVerdict u f s d (Err place)) →
      (c : Certificate) → IsCertificateText text c → AreFunctionsVerdict u 0 u.functions u.signatures c.functions (Err (of_function at place))
  refused_left place verdict c is =
      let (d, there) = item_there c.functions at (many c is) in
      refused_here u at left fs f signed ss s (drop at c.functions) (drop (at + 1) c.functions) d p q (from_item c.functions at d there)
      (λ r. AreFunctionsVerdict u 0 u.functions u.signatures c.functions r) (is_left c is) place (verdict c d is there)

  pub more_left :
      ((c : Certificate) (d : Steps) → IsCertificateText text c → slice_get c.functions at ≡ Some d → IsFunctionVerdict u f s d (Ok tt)) →
      IsLeft u text (at + 1) fs ss
  more_left verdict c is r h =
      let (d, there) = item_there c.functions at (many c is) in
      whole_on u at left fs f signed ss s (drop at c.functions) (drop (at + 1) c.functions) d p q (from_item c.functions at d there)
      (λ r. AreFunctionsVerdict u 0 u.functions u.signatures c.functions r) (is_left c is) (verdict c d is there) r h

none_signed : (signed : List Signature) → are_ready [] signed ≡ true → signed ≡ []
none_signed [] h = refl
none_signed (s ∷ ss) h = absurd (false≢true h)

-- where none is left, all are accepted
pub none_left : (u : SimplUnit) (text : List ℕ) (at : ℕ) (left : List SimplFn) (signed : List Signature) → left ≡ [] → are_ready left signed ≡ true →
    IsLeft u text at left signed → (c : Certificate) → IsCertificateText text c → length c.functions ≡ at →
    AreFunctionsVerdict u 0 u.functions u.signatures c.functions (Ok tt)
none_left u text at left signed none ready is_left c is all =
    let unsigned = none_signed signed (subst (λ fs. are_ready fs signed ≡ true) none ready) in
    let done : drop at c.functions ≡ [] = drop_all at c.functions (omega (arith, all)) in
    is_left c is (Ok tt)
    (subst (λ fs. AreFunctionsVerdict u at fs signed (drop at c.functions) (Ok tt)) (sym none)
    (subst (λ ss. AreFunctionsVerdict u at [] ss (drop at c.functions) (Ok tt)) (sym unsigned)
    (subst (λ cs. AreFunctionsVerdict u at [] [] cs (Ok tt)) (sym done) refl)))
