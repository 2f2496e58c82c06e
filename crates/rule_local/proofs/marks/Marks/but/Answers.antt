use Rattle.std.proofs.Common.{arith}
use Rattle.rule_local.proofs.MarksLaws.{marked_but}
use Rattle.rule_local.proofs.marks.Marks.but.Goals as goal

pub returns : goal.returns
returns c = λ i h. marked_but c.args.self.bits c.args.others.bits i (omega arith) h
