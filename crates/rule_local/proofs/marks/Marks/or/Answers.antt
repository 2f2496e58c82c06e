use Rattle.rule_local.proofs.MarksLaws.{marked_or}
use Rattle.rule_local.proofs.marks.Marks.or.Goals as goal

pub returns : goal.returns
returns c = marked_or c.args.self.bits c.args.other.bits
