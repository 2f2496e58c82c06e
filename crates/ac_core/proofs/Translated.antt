-- The certificate that is made of a typed text at the levels by default is accepted, its last programs are the text's, and all of it has a text.
use Rattle.std.proofs.Common.{◌≡◌, true, List}
use Rattle.c_values.specs.Name.{Name}
use Rattle.c_values.specs.Types.{Target}
use Rattle.expression_lang.specs.Sort.{Level}
use Rattle.expression_text.specs.Lists.{each}
use Rattle.c_lang.specs.Typed.{TypedUnit}
use Rattle.c_lang.specs.WellTyped.{IsWellTyped}
use Rattle.c_meaning.specs.Levels.{AreDefaultLevels}
use Rattle.generation.specs.Generate.{generated}
use Rattle.ac_expr.specs.SameExp.{same_exp}
use Rattle.pipeline.specs.Ready.{CallsLifted}
use Rattle.pipeline.proofs.DefaultLevels.{default_calls_lifted}
use Rattle.acceptance.specs.Certificate.{Steps}
use Rattle.acceptance.specs.Accepted.{IsAccepted}
use Rattle.pipeline.specs.Made.{tidy_certificate}
use Rattle.pipeline.specs.Units.{last_unit}
use Rattle.pipeline.proofs.MadeAccepted.{last_are_tidy}
use Rattle.unit_translation.proofs.LastUnit.{certificate_is_accepted, made_is_exact}
use Rattle.unit_translation.proofs.Formed.{last_formed, last_programs, last_forms}
use Rattle.certificate_text.specs.CertificateText as certificates
use Rattle.text_answers.specs.TextAnswer.{IsRead}
use Rattle.text_answers.proofs.WellTyped.{well_typed}
use Rattle.ac_core.specs.Written.{AreTranslated}
use Rattle.ac_core.specs.CodeTasks.{has_few_locals}
use Rattle.ac_core.proofs.Texts.{certificate_has_text, unit_has_text}

module _ (target : Target) (u : TypedUnit) (read : IsRead target u) (bytes words : List Name) (levels : Name → Level) (default' : AreDefaultLevels u bytes words levels) (few : has_few_locals (generated u levels) ≡ true) where
  typed : IsWellTyped u
  typed = well_typed target u read

  calls : CallsLifted levels u.functions
  calls = default_calls_lifted u bytes words levels default' typed

  abbrev pub made : List Steps
  made = tidy_certificate same_exp (generated u levels)

  pub accepted : IsAccepted (generated u levels) made
  accepted = certificate_is_accepted u typed levels calls

  pub translated : AreTranslated u levels (last_unit (generated u levels) made)
  translated = record {
    of_unit = last_programs u levels made typed accepted;
    exact = made_is_exact u typed levels calls;
    well_formed = last_formed u levels made typed accepted;
    formed = last_forms u levels made typed accepted;
    tidy = last_are_tidy same_exp (generated u levels) (generated u levels).functions (generated u levels).signatures;
    texts = unit_has_text target u read levels calls few;
  }

  pub has_text : each certificates.is_function made ≡ true
  has_text = certificate_has_text target u read levels calls few
