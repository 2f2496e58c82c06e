-- The fact lasts through the parts that are left exactly where it lasts through all.
use Rattle.std.proofs.Common.{◌≡◌}
use Rattle.ac_expr.specs.Fact.{stands_for}
use Rattle.ac_expr.specs.Lasting.{lasts_passed}
use Rattle.ac_expr.specs.CodeFacts.{fact_of}
use Rattle.ac_expr.proofs.lasting.lasts_passed.Given as goal

abbrev pub invariant-along : goal.invariant-along
invariant-along g l = lasts_passed l.left (g.S.Sequence.parts l.rest) (stands_for (fact_of l.fact)) ≡ lasts_passed l.count (g.S.Sequence.parts l.fn.parts) (stands_for (fact_of l.fact))

abbrev pub decreases-along : goal.decreases-along
decreases-along g l = l.left
