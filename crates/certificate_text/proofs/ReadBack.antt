-- What the answers of the readers say of a tree.
use Rattle.std.proofs.Common.{◌≡◌, ℕ, Ok, refl, ap, sym, ◌∙◌}
use Rattle.ac_sx.specs.Tree.{Tree}
use Rattle.expression_text.specs.declared.fault.TextFault.{TextFault}
use Rattle.expression_text.specs.declared.fault.TextFault.TheVariants as F
use Rattle.expression_text.specs.CodeFault.{Fails}
use Rattle.expression_text.proofs.Behind.{behind, value_ok}
use Rattle.certificate_text.specs.CertificateText.{Certificate, certificate_tree}
use Rattle.certificate_text.specs.CertificateReading.{certificate_at}
use Rattle.certificate_text.specs.Answer.{IsCertificateTree}
use Rattle.certificate_text.proofs.CertificateLaws.{certificate_reads, certificate_spells}

pub found : (t : Tree) (c : Certificate) (n : ℕ) → certificate_at 0 t ≡ Ok (c, n) → IsCertificateTree t c
found t c n read = certificate_spells t 0 c n read

given_tree : (c : Certificate) (t : Tree) → IsCertificateTree t c → certificate_at 0 t ≡ Ok (c, behind 0 (certificate_tree c))
given_tree c t is = ap (certificate_at 0) is.0 ∙ certificate_reads c is.1 0

pub only : (t : Tree) (c : Certificate) (n : ℕ) (d : Certificate) → certificate_at 0 t ≡ Ok (c, n) → IsCertificateTree t d → c ≡ d
only t c n d read is = value_ok c n d (behind 0 (certificate_tree d)) (sym read ∙ given_tree d t is)

-- no tree of a certificate is refused
pub not_refused : (c : Certificate) (t : Tree) (fault : TextFault) → Fails fault (certificate_at 0 t) → IsCertificateTree t c → fault ≡ F.Memory
not_refused c t (F.Shape at) bad is = absurd (let read = sym bad ∙ given_tree c t is in cc)
not_refused c t F.Memory bad is = refl
not_refused c t F.NotText bad is = absurd bad
not_refused c t F.Deep bad is = absurd bad
