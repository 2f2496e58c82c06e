-- What is answered to a memory, where the certificate is accepted.
use Rattle.std.proofs.Common.{subst}
use Rattle.std.proofs.lemmas.Result.{IfOk-weaker}
use Rattle.c_values.specs.CodeTypes as types
use Rattle.c_lang.specs.CodeTyped.{unit_of}
use Rattle.checking.specs.CodeJudged.{IsJudged}
use Rattle.running.proofs.Answered.{after_certificate}
use Rattle.running.proofs.answer.ran.Goals as goal

pub returns-in-Ok : goal.returns-in-Ok
returns-in-Ok g c =
    let target = types.target_of c.args.target in
    let unit = unit_of c.args.unit.now in
    let (d, for_target, a) = subst (IsJudged target c.args.certificate.now unit) c.in-Ok.is c.in_ok-accepted.ensures.judged in
    IfOk-weaker c.with_memory.result _ _
    (λ r h. after_certificate target c.args.certificate.now c.args.memory.now unit c.requires.typed d for_target c.in-Ok.accepted a r.status r.lines.items h)
    (c.with_memory.ensures d a)
