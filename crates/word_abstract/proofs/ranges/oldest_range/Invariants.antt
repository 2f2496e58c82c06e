-- None of those that were gone through gives one.
use Rattle.std.proofs.Common.{◌≡◌, ◌-◌, ◌≤◌, [], length, map, take, None}
use Rattle.ac_expr.specs.SameExp.{same_exp}
use Rattle.rule_word.specs.Bases as B
use Rattle.word_abstract.specs.CodeKnown.{newest_first}
use Rattle.word_abstract.specs.CodeFacts.{fact_in, whole, conditions_in}
use Rattle.word_abstract.specs.CodeRanges.{natural_in, integer_in}
use Rattle.word_abstract.proofs.ranges.oldest_range.Given as goal

abbrev pub invariant-along : goal.invariant-along
invariant-along l = record {
  none : B.oldest_range same_exp (conditions_in l.conditions) (natural_in l.ranges) (integer_in l.ranges)
      (newest_first (map whole (take l.count l.known.own.now)) (newest_first (map fact_in l.known.outer.now) [])) ≡ None;
  within : l.count ≤ length l.known.own.now;
}

abbrev pub decreases-along : goal.decreases-along
decreases-along l = length l.known.own.now - l.count
