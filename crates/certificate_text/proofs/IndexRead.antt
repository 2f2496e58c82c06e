-- What the answers of the scan say of a text.
use Rattle.std.proofs.Common.{◌≡◌, ◌≤◌, ℕ, List, Result, Ok, Err, refl, ap, sym, subst, ◌∙◌}
use Rattle.std.specs.Result.{IsErrAnd, IfErr}
use Rattle.ac_sx.specs.declared.spans.SxPart.{SxPart}
use Rattle.ac_sx.specs.Tree.{Tree, IsTree, file, depth, deepest}
use Rattle.ac_sx.specs.Spans.{parts_of}
use Rattle.expression_text.specs.declared.fault.TextFault.{TextFault}
use Rattle.expression_text.specs.declared.fault.TextFault.TheVariants as F
use Rattle.expression_text.specs.CodeFault.{Fails, Gives}
use Rattle.expression_text.specs.Reading.{Read, made}
use Rattle.expression_text.specs.Answer.{IsRead}
use Rattle.rule_text.proofs.GivenLaws.{made_ok}
use Rattle.certificate_text.specs.CertificateText.{Certificate, certificate_tree}
use Rattle.certificate_text.specs.CertificateReading.{certificate_at}
use Rattle.certificate_text.specs.CertificateIndex.{Index, index_of}
use Rattle.certificate_text.specs.Answer.{IsTextOf, IsCertificateText, IsFaultOf}
use Rattle.certificate_text.specs.IndexAnswer.{IsIndexOf}
use Rattle.certificate_text.proofs.ReadBack as back
use Rattle.certificate_text.proofs.Entries.{made_err, made_fails}

-- what a `?` hands on
pub told : {X A : Type 0} (view : X → A) (r : Result (X × ℕ) TextFault) (fault : TextFault) (read : Read A) → IsErrAnd r (λ e. e ≡ fault) → Fails fault read → Gives view r read
told view (Ok x) fault read is bad = absurd is
told view (Err e) fault read is bad = subst (λ x. Fails x read) (sym is) bad

-- what holds of each tree with this text and these parts, of the one that was found
abbrev IsFound : List ℕ → List SxPart → Type 0
IsFound text parts = (t : Tree) × IsTree t × (text ≡ file t) × (depth t ≤ deepest) × (parts ≡ parts_of t)

pub text_found : (text : List ℕ) (parts : List SxPart) → IsFound text parts → (t : Tree) × IsTextOf text t × (parts ≡ parts_of t)
text_found text parts there = let (t, is, same, low, these) = there in (t, record { atoms = is; spelled = same; depth = low }, these)

pub index_found : (text : List ℕ) (parts : List SxPart) (i : Index) (n : ℕ) → IsFound text parts → ((t : Tree) → IsTextOf text t → parts ≡ parts_of t → made index_of (certificate_at 0 t) ≡ Ok (i, n)) → IsIndexOf text i
index_found text parts i n there given =
    let (t, is, these) = text_found text parts there in
    let (c, read, same) = made_ok index_of (certificate_at 0 t) i n (given t is these) in
    let whole = back.found t c n read in
    (c, (subst (IsTextOf text) whole.0 is, whole.1), sym same)

pub index_only : (c : Certificate) (text : List ℕ) (i : Index) (n : ℕ) → IsCertificateText text c → made index_of (certificate_at 0 (certificate_tree c)) ≡ Ok (i, n) → i ≡ index_of c
index_only c text i n is given =
    let (d, read, same) = made_ok index_of (certificate_at 0 (certificate_tree c)) i n given in
    sym same ∙ ap index_of (back.only (certificate_tree c) d n c read (refl, is.1))

pub not_refused : (c : Certificate) (text : List ℕ) (fault : TextFault) → IsCertificateText text c → Fails fault (made index_of (certificate_at 0 (certificate_tree c))) → fault ≡ F.Memory
not_refused c text fault is bad = back.not_refused c (certificate_tree c) fault (made_fails index_of (certificate_at 0 (certificate_tree c)) fault bad) (refl, is.1)

pub refused_only : {X : Type 0} (view : X → Index) (r : Result X TextFault) (fault : TextFault) (i : Index) → IsErrAnd r (λ e. e ≡ fault) → fault ≡ F.Memory → IsRead view r i
refused_only view (Ok x) fault i is none = absurd is
refused_only view (Err e) fault i is none = is ∙ none

cause : (text : List ℕ) (parts : List SxPart) (fault : TextFault) → IsFound text parts → ((t : Tree) → IsTextOf text t → parts ≡ parts_of t → Fails fault (made index_of (certificate_at 0 t))) → IsFaultOf text fault
cause text parts (F.Shape n) there bad = let (t, is, these) = text_found text parts there in (t, is, made_err index_of (certificate_at 0 t) n (bad t is these))
cause text parts F.Memory there bad = tt
cause text parts F.NotText there bad = let (t, is, these) = text_found text parts there in absurd (bad t is these)
cause text parts F.Deep there bad = let (t, is, these) = text_found text parts there in absurd (bad t is these)

pub fault_told : {X : Type 0} (r : Result X TextFault) (text : List ℕ) (parts : List SxPart) (fault : TextFault) → IsErrAnd r (λ e. e ≡ fault) → IsFound text parts → ((t : Tree) → IsTextOf text t → parts ≡ parts_of t → Fails fault (made index_of (certificate_at 0 t))) → IfErr r (IsFaultOf text)
fault_told (Ok x) text parts fault is there bad = tt
fault_told (Err e) text parts fault is there bad = subst (IsFaultOf text) (sym is) (cause text parts fault there bad)
