use Rattle.std.proofs.Common.{arith}
use Rattle.c_values.specs.CodeTypes as types
use Rattle.text_answers.specs.TextAnswer.{IsTextAnswer}
use Rattle.running.specs.Ran.{IsRan}
use Rattle.ac_core.specs.Answer.{certificate, memory}
use Rattle.ac_core.proofs.Files.{two_files}
use Rattle.ac_core.proofs.answer.run_certified.Goals as goal

pub returns-in-Ok-clause-answer : goal.returns-in-Ok-clause-answer
returns-in-Ok-clause-answer g c =
    two_files _ _ _ _ _ c.in-Ok.ensures.contents c.in-Ok.ensures.counts (certificate c.args.file.now) c.in-Ok.certificate.items c.in-Ok.ensures.whole (omega (arith, c.in-Ok.ensures.within, c.in-Ok.certificate.ok))
    c.deref.result.now c.deref.ensures.value (memory c.args.start.now)
    (λ said held. IsTextAnswer (types.target_of c.args.target) (IsRan (types.target_of c.args.target) held said) c.args.text.now)
    c.run_from.result c.run_from.ensures.answer
