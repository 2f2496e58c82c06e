use Rattle.rule_local.proofs.MarksLaws.{marked_and}
use Rattle.rule_local.proofs.marks.Marks.and.Goals as goal

pub returns : goal.returns
returns c = marked_and c.args.self.bits c.args.other.bits
