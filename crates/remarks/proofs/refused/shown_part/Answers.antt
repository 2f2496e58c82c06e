use Rattle.std.proofs.Common.{sym, subst}
use Rattle.c_values.specs.CodeTypes.{target_of}
use Rattle.remarks.specs.Remark.{IsSeen}
use Rattle.remarks.proofs.Again.{seen}
use Rattle.remarks.proofs.refused.shown_part.Goals as goal

pub returns : goal.returns
returns c =
    let target = target_of c.args.target in
    subst (IsSeen target c.args.text.now c.args.certificate.now) (sym c.part_of.ensures)
    (seen target c.args.text.now c.args.certificate.now c.in_ok-answer.answer.status c.in_ok-answer.answer.lines.items c.in_ok-answer.ensures)
