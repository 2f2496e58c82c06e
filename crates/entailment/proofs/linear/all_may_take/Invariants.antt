-- The facts that are left may be taken exactly where all may.
use Rattle.std.proofs.Common.{◌↔◌, map, length}
use Rattle.ac_expr.specs.CodeChain.{facts_of}
use Rattle.entailment.specs.CodeSums.{AllMayTake}
use Rattle.entailment.specs.CodeClaim.{scope_at}
use Rattle.triple_lang.specs.CodeEntail.{weighed_of}
use Rattle.entailment.proofs.linear.all_may_take.Given as goal

abbrev pub invariant-along : goal.invariant-along
invariant-along g l = AllMayTake (scope_at g.N.Scope.scalars l.site) (facts_of g.S.Sequence.parts l.facts) (map weighed_of l.rest)
    ↔ AllMayTake (scope_at g.N.Scope.scalars l.site) (facts_of g.S.Sequence.parts l.facts) (map weighed_of l.weighed)

abbrev pub decreases-along : goal.decreases-along
decreases-along g l = length l.rest
