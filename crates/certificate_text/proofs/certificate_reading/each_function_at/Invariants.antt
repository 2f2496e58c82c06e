-- The functions so far, and those to come, are the whole.
use Rattle.std.proofs.Common.{◌≡◌, ◌++◌, drop, map}
use Rattle.ac_sx.specs.CodeSx.{trees_in}
use Rattle.expression_text.specs.Reading.{made}
use Rattle.expression_text.specs.Lists.{list_at}
use Rattle.acceptance.specs.CodeCertificate.{steps_of}
use Rattle.certificate_text.specs.CertificateReading.{function_at}
use Rattle.certificate_text.proofs.certificate_reading.each_function_at.Given as goal

abbrev pub invariant-parts : goal.invariant-parts
invariant-parts l = made (λ fs. map steps_of l.functions.items ++ fs) (list_at function_at l.here (trees_in (drop l.part-index l.parts))) ≡ list_at function_at l.fn.at (trees_in l.fn.parts)
