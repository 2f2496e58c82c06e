use Rattle.std.proofs.Common.{◌||◌, sym, ap, ◌∙◌}
use Rattle.std.proofs.Math.Bool.{or-true}
use Rattle.rule_local.specs.CodeMarks.{is_marked}
use Rattle.rule_local.proofs.MarksLaws.{marked_with, marked_beside}
use Rattle.rule_local.proofs.marks.Marks.with.Goals as goal

pub returns-then-passes-clause-there : goal.returns-then-passes-clause-there
returns-then-passes-clause-there c =
    marked_with c.args.self.bits c.args.place c.requires ∙ sym (ap (λ b. is_marked c.args.self.bits c.args.place || b) c.if-passes.true ∙ or-true (is_marked c.args.self.bits c.args.place))

pub returns-then-passes-clause-others : goal.returns-then-passes-clause-others
returns-then-passes-clause-others c = λ i e. marked_beside c.args.self.bits c.args.place i c.requires e
