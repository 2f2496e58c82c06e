-- The fact lasts through the part that is passed.
use Rattle.std.proofs.Common.{◌<◌, sym, ◌∙◌, arith}
use Rattle.ac_expr.specs.Fact.{stands_for}
use Rattle.ac_expr.specs.CodeFacts.{fact_of}
use Rattle.ac_expr.proofs.LastingParts.{through_one}
use Rattle.ac_expr.proofs.lasting.lasts_passed.Goals as goal

pub along-preserved : goal.along-preserved
along-preserved g c =
    let positive : 0 < c.along.left = omega (arith, c.along-test.true) in
    through_one c.along.left (g.S.Sequence.parts c.along.rest) _ (g.S.Sequence.parts c.in-Some.split.rest) (stands_for (fact_of c.args.fact.now)) positive c.in-Some.ensures.some (sym c.if-not-lasts_part.ensures) ∙ c.along.invariant
