use Rattle.std.proofs.Common.{arith, [], sym, ◌∙◌}
use Rattle.word_abstract.specs.CodeViews.{base_of}
use Rattle.std.specs.Option.{option_map}
use Rattle.word_abstract.specs.CodeFacts.{fact_in, conditions_in}
use Rattle.word_abstract.specs.CodeRanges.{natural_in, integer_in}
use Rattle.word_abstract.proofs.RangeLaws.{some_there, none_left, found_there, not_yet_taken}
use Rattle.word_abstract.proofs.ranges.oldest_outer.Goals as goal

pub returns-then-is_some : goal.returns-then-is_some
returns-then-is_some c =
    sym (found_there fact_in c.args.facts.now c.along.count c.index-facts-count.result [] (conditions_in c.args.conditions.now) (natural_in c.args.ranges.now) (integer_in c.args.ranges.now) (option_map base_of c.fact_range-found.result)
    (omega (arith, c.along-test.true)) c.index-facts-count.is c.along.invariant.none (sym c.fact_range-found.ensures) (some_there base_of c.fact_range-found.result (sym c.is_some.ensures ∙ c.if-is_some.true)))

pub along-preserved : goal.along-preserved
along-preserved c = record {
  none = not_yet_taken fact_in c.args.facts.now c.along.count c.index-facts-count.result [] (conditions_in c.args.conditions.now) (natural_in c.args.ranges.now) (integer_in c.args.ranges.now)
      (omega (arith, c.along-test.true)) c.index-facts-count.is c.along.invariant.none (sym c.fact_range-found.ensures ∙ none_left base_of c.fact_range-found.result (sym c.is_some.ensures ∙ c.if-is_some.false));
  within = omega (arith, c.along-test.true);
}
