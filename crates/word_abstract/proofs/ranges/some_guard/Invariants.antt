-- One of those that are left gives it where one of all does.
use Rattle.std.proofs.Common.{◌≡◌, [], length, map}
use Rattle.expression_lang.specs.CodeExpression.{exp_of}
use Rattle.ac_expr.specs.SameExp.{same_exp}
use Rattle.rule_word.specs.Bases.{some_gives}
use Rattle.word_abstract.specs.CodeKnown.{newest_first}
use Rattle.word_abstract.specs.CodeFacts.{whole}
use Rattle.word_abstract.proofs.ranges.some_guard.Given as goal

abbrev pub invariant-along : goal.invariant-along
invariant-along l = some_gives same_exp (newest_first (map whole l.rest) []) (exp_of l.e) ≡ some_gives same_exp (newest_first (map whole l.guards) []) (exp_of l.e)

abbrev pub decreases-along : goal.decreases-along
decreases-along l = length l.rest
