-- A verdict decides whether the steps are accepted.
use Rattle.expression_lang.specs.CodeSignature.{signature_of}
use Rattle.simpl_lang.specs.CodeCommand.{simpl_fn_of, simpl_unit_of}
use Rattle.acceptance.specs.CodeCertificate.{steps_of}
use Rattle.acceptance.specs.CodePlace.{verdict_of}
use Rattle.acceptance.proofs.Verdicts.{verdicts_decide}
use Rattle.acceptance.proofs.functions.check_function.Goals as goal

pub returns-clause-decided : goal.returns-clause-decided
returns-clause-decided c =
    verdicts_decide (simpl_unit_of c.args.u.now) (simpl_fn_of c.args.f.now) (signature_of c.args.s.now)
    (steps_of c.args.steps.now) (verdict_of c.from_calls.result) c.from_calls.ensures
