-- What the answers of the scan and of the reader of one function say of a text.
use Rattle.std.specs.Prelude.{◌≡◌, ℕ, List}
use Rattle.certificate_text.specs.CertificateText.{Certificate}
use Rattle.certificate_text.specs.CertificateIndex.{Index, index_of}
use Rattle.certificate_text.specs.Answer.{IsCertificateText}

-- the index of the certificate whose text this is
abbrev pub IsIndexOf : List ℕ → Index → Type 0
IsIndexOf text i = (c : Certificate) × IsCertificateText text c × (i ≡ index_of c)
