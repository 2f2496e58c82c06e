-- One of those that are left gives it where one of all does.
use Rattle.std.proofs.Common.{◌≡◌}
use Rattle.expression_lang.specs.CodeExpression.{exp_of}
use Rattle.ac_expr.specs.SameExp.{same_exp}
use Rattle.rule_word.specs.Bases.{some_gives}
use Rattle.word_abstract.specs.CodeRanges.{before_in}
use Rattle.word_abstract.proofs.ranges.some_before.Given as goal

abbrev pub invariant-along : goal.invariant-along
invariant-along l = some_gives same_exp (before_in l.rest) (exp_of l.e) ≡ some_gives same_exp (before_in l.before) (exp_of l.e)
