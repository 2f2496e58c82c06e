-- What the code finds of a certificate's text: what an accepted one comes to, or the answer that turns the text away.
use Rattle.std.specs.Prelude.{◌≡◌, ℕ, List, None, Result, Ok, Err, ◌⊎◌}
use Rattle.c_values.specs.Types.{Target}
use Rattle.simpl_lang.specs.CodeCommand.{simpl_unit_of}
use Rattle.c_lang.specs.Typed.{TypedUnit}
use Rattle.c_levels.specs.CodeModes.{AreLevels}
use Rattle.generation.specs.Generate.{generated}
use Rattle.acceptance.specs.Accepted as A
use Rattle.certificate_text.specs.CertificateText.{Certificate}
use Rattle.certificate_text.specs.CertificateIndex.{index_of}
use Rattle.certificate_text.specs.CodeIndex.{index_in}
use Rattle.certificate_text.specs.Answer.{IsCertificateText}
use Rattle.answers.specs.declared.answer.Answer.{Answer}
use Rattle.answers.specs.declared.status.Status.{Status}
use Rattle.answers.specs.declared.status.Status.TheVariants.{No, Text}
use Rattle.checking.specs.declared.verdicts.Accepted.{Accepted}
use Rattle.checking.specs.Checked.{level_in, apart, target_for, IsNoCertificate, IsForAnother, OfCertificate, IsVerdict}

-- it is of this certificate, which is accepted for what is generated at its levels
pub record IsAcceptedAs (text : List ℕ) (unit : TypedUnit) (c : Certificate) (a : Accepted) : Type 0 where
  pub is_text : IsCertificateText text c
  pub listed : apart unit c.functions ≡ None
  pub accepted : A.IsAccepted (generated unit (level_in c.functions)) c.functions
  pub index : index_in a.index ≡ index_of c
  pub levels : AreLevels unit a.modes (level_in c.functions)
  pub generated : simpl_unit_of a.generated ≡ generated unit (level_in c.functions)

-- the answer to a text that isn't one of an accepted certificate for the target
abbrev pub IsTurnedAway : Target → List ℕ → TypedUnit → Status → List ℕ → Type 0
IsTurnedAway target text unit Text lines = IsNoCertificate text lines ⊎ IsForAnother target text lines
IsTurnedAway target text unit No lines = OfCertificate target unit text No lines
IsTurnedAway target text unit _ lines = ⊥

abbrev pub IsJudged : Target → List ℕ → TypedUnit → Result Accepted Answer → Type 0
IsJudged target text unit (Ok a) = (c : Certificate) × (target_for c.version ≡ target) × IsAcceptedAs text unit c a
IsJudged target text unit (Err answer) = IsTurnedAway target text unit answer.status answer.lines.items

-- the same of a certificate for the target
abbrev pub IsJudgedAs : List ℕ → TypedUnit → Certificate → Result Accepted Answer → Type 0
IsJudgedAs text unit c (Ok a) = IsAcceptedAs text unit c a
IsJudgedAs text unit c (Err answer) = (answer.status ≡ No) × IsVerdict unit c.functions No answer.lines.items
