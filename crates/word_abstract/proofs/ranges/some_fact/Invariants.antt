-- One of those that are left gives it where one of all does.
use Rattle.std.proofs.Common.{◌≡◌, ◌≤◌, [], length, map, take}
use Rattle.expression_lang.specs.CodeExpression.{exp_of}
use Rattle.ac_expr.specs.SameExp.{same_exp}
use Rattle.rule_word.specs.Bases.{some_gives}
use Rattle.word_abstract.specs.CodeKnown.{newest_first}
use Rattle.word_abstract.specs.CodeFacts.{fact_in}
use Rattle.word_abstract.proofs.ranges.some_fact.Given as goal

abbrev pub invariant-along : goal.invariant-along
invariant-along l = record {
  same : some_gives same_exp (newest_first (map fact_in (take l.count l.facts)) []) (exp_of l.e) ≡ some_gives same_exp (newest_first (map fact_in l.facts) []) (exp_of l.e);
  within : l.count ≤ length l.facts;
}

abbrev pub decreases-along : goal.decreases-along
decreases-along l = l.count
