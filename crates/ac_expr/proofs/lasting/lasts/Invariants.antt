-- The fact lasts through what is left of the chain exactly where it lasts through all.
use Rattle.std.proofs.Common.{◌≡◌}
use Rattle.ac_expr.specs.declared.lasting.After.{size-After}
use Rattle.ac_expr.specs.Fact.{stands_for}
use Rattle.ac_expr.specs.CodeFacts.{fact_of}
use Rattle.ac_expr.specs.CodeLasting.{lasts}
use Rattle.ac_expr.proofs.lasting.lasts.Given as goal

abbrev pub invariant-links : goal.invariant-links
invariant-links g l = lasts g.S.Sequence.parts l.rest (stands_for (fact_of l.fact)) ≡ lasts g.S.Sequence.parts l.after (stands_for (fact_of l.fact))

abbrev pub decreases-links : goal.decreases-links
decreases-links g l = size-After _ l.rest
