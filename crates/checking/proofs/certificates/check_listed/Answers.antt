-- The list is the certificate's, so the verdict is of a function.
use Rattle.std.proofs.Common.{map, subst}
use Rattle.std.specs.Prelude.{Err}
use Rattle.simpl_lang.specs.CodeCommand.{simpl_unit_of}
use Rattle.acceptance.specs.CodeCertificate.{steps_of}
use Rattle.acceptance.specs.CodePlace.{place_of, unit_verdict_of}
use Rattle.acceptance.specs.UnitVerdict.{IsUnitVerdict}
use Rattle.checking.proofs.Answered.{not_of_list}
use Rattle.checking.proofs.certificates.check_listed.Goals as goal

pub returns-in-Err-Function : goal.returns-in-Err-Function
returns-in-Err-Function c = (
  c.in-Err-Function.at,
  place_of c.in-Err-Function.place,
  subst (λ r. IsUnitVerdict (simpl_unit_of c.args.u.now) (map steps_of c.args.certificate.now) (unit_verdict_of (Err r))) c.in-Err-Function.field-0-is
      c.in-Err-Function.ensures.verdict,
  c.at_place.ensures,
)

pub unreachable-requires : goal.unreachable-requires
unreachable-requires c =
    not_of_list (simpl_unit_of c.args.u.now) (map steps_of c.args.certificate.now) c.requires.at_levels c.requires.listed c.in-Err-List.field-0-0
    (subst (λ r. IsUnitVerdict (simpl_unit_of c.args.u.now) (map steps_of c.args.certificate.now) (unit_verdict_of (Err r))) c.in-Err-List.field-0-is
    c.in-Err-List.ensures.verdict)
