use Rattle.std.proofs.Common.{sym, ap, ◌∙◌}
use Rattle.ac_expr.specs.SameExp.{same_exp}
use Rattle.rule_word.specs.Bases as B
use Rattle.word_abstract.specs.CodeRanges.{before_in, natural_in, integer_in}
use Rattle.word_abstract.proofs.ranges.+range_given.Goals as goal

pub returns-in-Range : goal.returns-in-Range
returns-in-Range t c =
    c.kind.ensures (before_in c.args.before.now)
    ∙ ap (B.range_given same_exp (before_in c.args.before.now) (natural_in c.args.ranges.now) (integer_in c.args.ranges.now)) (sym c.in-Range.ensures.same)
