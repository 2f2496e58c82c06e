-- Which text is whose, and what the readers' answers say of a text.
use Rattle.std.specs.Prelude.{◌≡◌, ◌≤◌, ℕ, true, List, ◌⊎◌, Result, Err, MatchResult}
use Rattle.ac_sx.specs.Tree.{Tree, IsTree, file, depth, deepest}
use Rattle.ac_sx.specs.Front.{OpensTooDeep}
use Rattle.ac_sx.specs.Answer.{IsNoText}
use Rattle.expression_text.specs.declared.fault.TextFault.{TextFault}
use Rattle.expression_text.specs.declared.fault.TextFault.TheVariants.{NotText, Deep, Shape, Memory}
use Rattle.certificate_text.specs.CertificateText.{Certificate, certificate_tree, is_certificate}
use Rattle.certificate_text.specs.CertificateReading.{certificate_at}

abbrev pub IsCertificateTree : Tree → Certificate → Type 0
IsCertificateTree t c = (t ≡ certificate_tree c) × (is_certificate c ≡ true)

-- the text of a tree that isn't too deep
pub record IsTextOf (text : List ℕ) (t : Tree) : Type 0 where
  pub atoms : IsTree t
  pub spelled : text ≡ file t
  pub depth : depth t ≤ deepest

abbrev pub IsCertificateText : List ℕ → Certificate → Type 0
IsCertificateText text c = IsTextOf text (certificate_tree c) × (is_certificate c ≡ true)

-- the cause of a fault; of want of memory there is none
abbrev pub IsFaultOf : List ℕ → TextFault → Type 0
IsFaultOf text NotText = (at : ℕ) × IsNoText text at
IsFaultOf text Deep = (at : ℕ) × OpensTooDeep text at
IsFaultOf text (Shape n) = (t : Tree) × IsTextOf text t × (certificate_at 0 t ≡ Err n)
IsFaultOf text Memory = Unit {0}

-- refused so, unless memory ran out
abbrev pub IsRefusedAs : {X : Type 0} → Result X TextFault → TextFault → Type 0
IsRefusedAs r fault = MatchResult r (λ _. ⊥) (λ e. (e ≡ fault) ⊎ (e ≡ Memory))
