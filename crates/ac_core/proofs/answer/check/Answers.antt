use Rattle.std.proofs.Common.{arith}
use Rattle.c_values.specs.CodeTypes as types
use Rattle.text_answers.specs.TextAnswer.{IsTextAnswer}
use Rattle.checking.specs.Checked.{IsChecked}
use Rattle.ac_core.specs.Answer.{certificate, source}
use Rattle.ac_core.proofs.Files.{two_files}
use Rattle.ac_core.proofs.answer.check.Goals as goal

pub returns-in-Ok-clause-answer : goal.returns-in-Ok-clause-answer
returns-in-Ok-clause-answer g c =
    two_files _ _ _ _ _ c.in-Ok.ensures.contents c.in-Ok.ensures.counts (source c.args.file.now) c.in-Ok.text.items c.in-Ok.ensures.whole (omega (arith, c.in-Ok.ensures.within, c.in-Ok.text.ok))
    c.deref.result.now c.deref.ensures.value (certificate c.args.certificate.now)
    (λ held. IsTextAnswer (types.target_of c.args.target) (IsChecked (types.target_of c.args.target) held))
    c.with_certificate.result c.with_certificate.ensures.answer
