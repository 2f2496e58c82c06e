-- The function that is read is the certificate's.
use Rattle.std.proofs.Common.{sym, ap, ◌∙◌}
use Rattle.std.proofs.lemmas.Option.{same_Some}
use Rattle.std.proofs.lemmas.Result.{IfOk-weaker}
use Rattle.expression_lang.specs.CodeSignature.{signature_of}
use Rattle.monad_lang.specs.CodeProgram.{mon_of}
use Rattle.monad_lang.specs.declared.program.Mon as M
use Rattle.acceptance.specs.Certificate.{Steps}
use Rattle.acceptance.specs.CodeCertificate.{steps_of}
use Rattle.pipeline.specs.Units.{on_numbers}
use Rattle.checking.proofs.texts.last_at.Goals as goal

pub returns : goal.returns
returns c = λ d steps is there.
    IfOk-weaker c.last_function.result _ _
    (λ f same. same ∙ ap (λ (m : M.Mon). on_numbers (signature_of c.args.s.now) (mon_of m)) c.deref.ensures
    ∙ ap (λ (x : Steps). on_numbers (signature_of c.args.s.now) x.equal.program)
    (same_Some (steps_of c.in_ok-steps.steps) steps (sym (c.in_ok-steps.ensures.found d is) ∙ there)))
    c.last_function.ensures
