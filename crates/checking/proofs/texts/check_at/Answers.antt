-- The function that is read is the certificate's.
use Rattle.std.proofs.Common.{sym, subst, ◌∙◌}
use Rattle.std.proofs.lemmas.Option.{same_Some}
use Rattle.expression_lang.specs.CodeSignature.{signature_of}
use Rattle.simpl_lang.specs.CodeCommand.{simpl_fn_of, simpl_unit_of}
use Rattle.acceptance.specs.CodeCertificate.{steps_of}
use Rattle.acceptance.specs.CodePlace.{verdict_of}
use Rattle.acceptance.specs.Verdict.{IsFunctionVerdict}
use Rattle.checking.proofs.texts.check_at.Goals as goal

pub returns : goal.returns
returns c = λ d steps is there.
    subst (λ x. IsFunctionVerdict (simpl_unit_of c.args.u.now) (simpl_fn_of c.args.f.now) (signature_of c.args.s.now) x (verdict_of c.check_function.result))
    (same_Some (steps_of c.in_ok-steps.steps) steps (sym (c.in_ok-steps.ensures.found d is) ∙ there)) c.check_function.ensures.verdict
