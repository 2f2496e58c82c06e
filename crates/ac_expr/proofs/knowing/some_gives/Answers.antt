-- Nothing comes after.
use Rattle.ac_expr.specs.Fact.{stands_for}
use Rattle.ac_expr.specs.Known.{Gives}
use Rattle.ac_expr.specs.CodeFacts.{fact_of}
use Rattle.ac_expr.specs.CodeChain.{facts_of}
use Rattle.ac_expr.proofs.LastingFacts.{after_nothing, two}
use Rattle.ac_expr.proofs.knowing.some_gives.Goals as goal

pub returns : goal.returns
returns g c =
    two c.some.ensures
    (after_nothing (λ e. Gives (facts_of g.S.Sequence.parts c.args.facts.now) e (stands_for (fact_of c.args.claim.now))) (facts_of g.S.Sequence.parts c.args.facts.now))
