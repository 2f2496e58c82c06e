use Rattle.ac_expr.specs.Fact.{stands_for}
use Rattle.ac_expr.specs.CodeFacts.{fact_of}
use Rattle.expression_steps.specs.CodePoint.{known_in}
use Rattle.expression_steps.proofs.Tested.{known_tested}
use Rattle.expression_steps.proofs.table_steps.is_known.Goals as goal

pub returns : goal.returns
returns c =
    known_tested (known_in c.args.facts.now) (stands_for (fact_of c.args.claim.now)) c.known.result c.known.ensures
