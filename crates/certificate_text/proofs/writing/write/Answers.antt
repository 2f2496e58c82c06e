use Rattle.std.proofs.Common.{ap, ◌∙◌}
use Rattle.ac_sx.specs.Writing.{written}
use Rattle.ac_sx.specs.CodeSpeller.{spelling_out}
use Rattle.certificate_text.specs.CertificateText.{certificate_tree}
use Rattle.certificate_text.specs.CodeCertificate.{certificate_of}
use Rattle.certificate_text.proofs.writing.write.Goals as goal

pub returns : goal.returns
returns c =
    let tree = certificate_tree (certificate_of c.args.certificate.now) in
    c.finish.ensures tree (c.in_ok-certificate_into.ensures ∙ ap (λ s. written spelling_out s tree) c.new-text.ensures)
