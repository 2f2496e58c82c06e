use Rattle.expression_lang.specs.declared.expression.Exp as E
use Rattle.expression_lang.specs.CodeExpression.{exp_of}
use Rattle.ac_expr.specs.SameExp.{same_exp}
use Rattle.rule_word.specs.Bases as B
use Rattle.std.proofs.Common.{arith, [], ◌++◌, map, take, ap, sym, ◌∙◌}
use Rattle.word_abstract.specs.CodeViews.{base_of}
use Rattle.std.specs.Option.{option_map}
use Rattle.word_abstract.specs.CodeKnown.{newest_first}
use Rattle.word_abstract.specs.CodeFacts.{fact_in, whole, conditions_in}
use Rattle.word_abstract.specs.CodeRanges.{natural_in, integer_in}
use Rattle.word_abstract.proofs.RangeLaws.{some_there, none_left, found_there, not_yet_taken}
use Rattle.word_abstract.proofs.ranges.oldest_range.Goals as goal

pub returns-then-is_some-2 : goal.returns-then-is_some-2
returns-then-is_some-2 c =
    sym (found_there whole c.args.known.own.now c.along.count c.index-known-count.result (newest_first (map fact_in c.args.known.outer.now) []) (conditions_in c.args.conditions.now) (natural_in c.args.ranges.now) (integer_in c.args.ranges.now)
    (option_map base_of c.first_range-found.result) (omega (arith, c.along-test.true)) c.index-known-count.is c.along.invariant.none (ap (λ (e : E.Exp). B.first_range same_exp (conditions_in c.args.conditions.now ++ newest_first (map whole (take c.along.count c.args.known.own.now)) (newest_first (map fact_in c.args.known.outer.now) [])) (natural_in c.args.ranges.now) (integer_in c.args.ranges.now) (exp_of e)) c.index-known-count.is ∙ sym c.first_range-found.ensures)
    (some_there base_of c.first_range-found.result (sym c.is_some-in-along.ensures ∙ c.if-is_some-2.true)))

pub along-preserved : goal.along-preserved
along-preserved c = record {
  none = not_yet_taken whole c.args.known.own.now c.along.count c.index-known-count.result (newest_first (map fact_in c.args.known.outer.now) []) (conditions_in c.args.conditions.now) (natural_in c.args.ranges.now) (integer_in c.args.ranges.now)
      (omega (arith, c.along-test.true)) c.index-known-count.is c.along.invariant.none (ap (λ (e : E.Exp). B.first_range same_exp (conditions_in c.args.conditions.now ++ newest_first (map whole (take c.along.count c.args.known.own.now)) (newest_first (map fact_in c.args.known.outer.now) [])) (natural_in c.args.ranges.now) (integer_in c.args.ranges.now) (exp_of e)) c.index-known-count.is ∙ sym c.first_range-found.ensures ∙ none_left base_of c.first_range-found.result (sym c.is_some-in-along.ensures ∙ c.if-is_some-2.false));
  within = omega (arith, c.along-test.true);
}
