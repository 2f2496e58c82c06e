-- None of those that were gone through gives one.
use Rattle.std.proofs.Common.{◌≡◌, ◌-◌, ◌≤◌, [], length, map, take, None}
use Rattle.ac_expr.specs.SameExp.{same_exp}
use Rattle.rule_word.specs.Bases.{oldest_range}
use Rattle.word_abstract.specs.CodeKnown.{newest_first}
use Rattle.word_abstract.specs.CodeFacts.{fact_in, conditions_in}
use Rattle.word_abstract.specs.CodeRanges.{natural_in, integer_in}
use Rattle.word_abstract.proofs.ranges.oldest_outer.Given as goal

abbrev pub invariant-along : goal.invariant-along
invariant-along l = record {
  none : oldest_range same_exp (conditions_in l.conditions) (natural_in l.ranges) (integer_in l.ranges) (newest_first (map fact_in (take l.count l.facts)) []) ≡ None;
  within : l.count ≤ length l.facts;
}

abbrev pub decreases-along : goal.decreases-along
decreases-along l = length l.facts - l.count
