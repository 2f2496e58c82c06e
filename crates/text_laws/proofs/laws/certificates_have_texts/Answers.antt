use Rattle.text_laws.proofs.CertificateTrees.{certificate_is_tree, certificate_spelled, one_certificate}
use Rattle.text_laws.proofs.laws.certificates_have_texts.Goals as goal

pub returns : goal.returns
returns c = record { trees = certificate_is_tree; texts = certificate_spelled; one = one_certificate }
