-- What was made, and then the steps of the functions that are left, are those of all of them.
use Rattle.std.proofs.Common.{◌≡◌, ◌++◌, map, length}
use Rattle.ac_expr.specs.SameExp.{same_exp}
use Rattle.expression_lang.specs.CodeSignature.{signature_of}
use Rattle.simpl_lang.specs.CodeCommand.{simpl_fn_of, simpl_unit_of}
use Rattle.acceptance.specs.CodeCertificate.{steps_of}
use Rattle.pipeline.specs.Made.{tidy_last, all_steps_with, tidy_certificate}
use Rattle.unit_translation.specs.CodeTranslated.{AllReadyToLift}
use Rattle.unit_translation.proofs.units.translate_functions.Given as goal

abbrev pub invariant-functions : goal.invariant-functions
invariant-functions g l = record {
  made : map steps_of l.made.items ++ all_steps_with tidy_last same_exp (simpl_unit_of l.u) (map simpl_fn_of l.functions) (map signature_of l.signatures)
      ≡ tidy_certificate same_exp (simpl_unit_of l.u);
  ready : AllReadyToLift (map simpl_fn_of l.functions) (map signature_of l.signatures);
}

abbrev pub decreases-functions : goal.decreases-functions
decreases-functions g l = length l.functions
