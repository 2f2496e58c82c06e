-- The literal is the claim's truth value.
use Rattle.std.proofs.Common.{sym}
use Rattle.expression_lang.specs.CodeExpression.{exp_of}
use Rattle.entailment.specs.CodeClaim.{scope_at}
use Rattle.entailment.proofs.ClaimSteps.{given_truth}
use Rattle.entailment.proofs.stepping.is_given.Goals as goal

pub returns-in-Some : goal.returns-in-Some
returns-in-Some g c = λ fs.
    let sides = c.args.sides.now in
    let says = given_truth (scope_at g.N.Scope.scalars c.args.site.now) fs sides.relation (exp_of sides.first.now) (exp_of sides.second.now)
    c.requires c.in-Some.truth (exp_of c.args.rest.now) (sym c.in-Some.ensures) in
    (λ yes. says.0 (c.becomes.ensures.0 yes), λ so. c.becomes.ensures.1 (says.1 so))
