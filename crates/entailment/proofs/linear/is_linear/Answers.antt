-- What is tested is what linear arithmetic asks.
use Rattle.std.proofs.Common.{map}
use Rattle.ac_expr.specs.CodeChain.{facts_of}
use Rattle.entailment.specs.CodeClaim.{claim_of, scope_at}
use Rattle.triple_lang.specs.CodeEntail.{weighed_of}
use Rattle.entailment.proofs.LinearFound.{where_contradicts, where_not}
use Rattle.entailment.proofs.linear.is_linear.Goals as goal

pub returns-then-contradicts : goal.returns-then-contradicts
returns-then-contradicts g c =
    where_contradicts (scope_at g.N.Scope.scalars c.args.site.now) (facts_of g.S.Sequence.parts c.args.facts.now) c.args.weight
    (map weighed_of c.args.weighed.now) (claim_of c.args.claim.now)
    c.contradicts.result c.all_may_take.result c.contradicts.ensures c.if-contradicts.true c.all_may_take.ensures

pub returns-else-contradicts : goal.returns-else-contradicts
returns-else-contradicts g c =
    where_not (scope_at g.N.Scope.scalars c.args.site.now) (facts_of g.S.Sequence.parts c.args.facts.now) c.args.weight
    (map weighed_of c.args.weighed.now) (claim_of c.args.claim.now)
    c.contradicts.result c.contradicts.ensures c.if-contradicts.false
