-- What the code's certificates stand for.
use Rattle.std.specs.Prelude.{map}
use Rattle.std.specs.Option.{option_map}
use Rattle.c_values.specs.CodeTypes.{target_of}
use Rattle.ac_sx.specs.CodeSx.{tree_of}
use Rattle.acceptance.specs.CodeCertificate.{steps_of}
use Rattle.certificate_text.specs.declared.certificate.Version as V
use Rattle.certificate_text.specs.declared.certificate.Certificate as C
use Rattle.certificate_text.specs.declared.function_reading.Parts as P
use Rattle.certificate_text.specs.CertificateText.{Version, One, Two, Certificate}
use Rattle.certificate_text.specs.CertificateReading.{Parts}

abbrev pub version_of : V.Version → Version
version_of V.TheVariants.One = One
version_of (V.TheVariants.Two t) = Two (target_of t)

abbrev pub certificate_of : C.Certificate → Certificate
certificate_of c = record { version = version_of c.version; functions = map steps_of c.functions.items }

abbrev pub parts_of : P.Parts → Parts
parts_of p = record {
  exception = tree_of p.exception.now;
  local = tree_of p.local.now;
  heap = option_map (λ h. tree_of h.now) p.heap;
  word = tree_of p.word.now;
  equal = tree_of p.equal.now;
}
