-- The entries so far, and those to come, are the whole.
use Rattle.std.proofs.Common.{ℕ, length}
use Rattle.ac_sx.specs.Tree.{Trees}
use Rattle.expression_text.specs.Lists.{list_at}
use Rattle.expression_text.specs.Reading.{made}
use Rattle.certificate_text.specs.CertificateReading.{function_at}
use Rattle.certificate_text.specs.CertificateIndex.{entries_from}
use Rattle.certificate_text.specs.TextParts.{AreAt}
use Rattle.certificate_text.proofs.Entries.{AreSoFar}
use Rattle.certificate_text.proofs.scanning.each_entry.Given as goal

abbrev pub invariant-parts : goal.invariant-parts
invariant-parts l = (start : ℕ) (ts : Trees) → AreAt l.text start l.parts ts → AreSoFar l.text l.entries.items l.rest l.here (made (entries_from start) (list_at function_at l.fn.at ts))

abbrev pub decreases-parts : goal.decreases-parts
decreases-parts l = length l.rest
