use Rattle.std.proofs.Common.{◌-◌, ◌||◌, [], map, take, arith, sym, ap, ◌∙◌, true, false}
use Rattle.expression_lang.specs.CodeExpression.{exp_of}
use Rattle.ac_expr.specs.SameExp.{same_exp}
use Rattle.rule_word.specs.Bases.{some_gives}
use Rattle.word_abstract.specs.CodeKnown.{newest_first}
use Rattle.word_abstract.specs.CodeFacts.{fact_in}
use Rattle.word_abstract.proofs.RangeLaws.{some_down}
use Rattle.word_abstract.proofs.ranges.some_fact.Goals as goal

pub returns-then-gives : goal.returns-then-gives
returns-then-gives c =
    let down = some_down fact_in c.args.facts.now c.along.count c.index-facts-count.result (exp_of c.args.e.now) (omega arith) c.along.invariant.within c.index-facts-count.is in
    ap (λ b. b || some_gives same_exp (newest_first (map fact_in (take (c.along.count - 1) c.args.facts.now)) []) (exp_of c.args.e.now)) (sym c.if-gives.true ∙ c.gives.ensures)
    ∙ sym down ∙ c.along.invariant.same

pub along-preserved : goal.along-preserved
along-preserved c = record {
  same =
      let down = some_down fact_in c.args.facts.now c.along.count c.index-facts-count.result (exp_of c.args.e.now) (omega arith) c.along.invariant.within c.index-facts-count.is in
      ap (λ b. b || some_gives same_exp (newest_first (map fact_in (take (c.along.count - 1) c.args.facts.now)) []) (exp_of c.args.e.now)) (sym c.if-gives.false ∙ c.gives.ensures)
      ∙ sym down ∙ c.along.invariant.same;
  within = omega (arith, c.along.invariant.within);
}
