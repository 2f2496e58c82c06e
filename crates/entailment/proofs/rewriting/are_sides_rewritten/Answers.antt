-- By the sides of both, where they aren't what is made.
use Rattle.std.proofs.Common.{refl}
use Rattle.expression_lang.specs.CodeExpression.{exp_of}
use Rattle.ac_expr.proofs.ApartThere.{never}
use Rattle.entailment.specs.CodeSides.{sides_of}
use Rattle.entailment.proofs.RewrittenParts.{made_there, by_sides}
use Rattle.entailment.proofs.rewriting.are_sides_rewritten.Goals as goal

pub returns-then-is_claim_made : goal.returns-then-is_claim_made
returns-then-is_claim_made c =
    let made = c.is_claim_made.ensures.0 c.if-is_claim_made.true in
    (λ yes. made_there (exp_of c.args.from.now) (exp_of c.args.to.now) (sides_of c.args.sides.now) (exp_of c.args.rest.now) made.0 made.1, λ so. refl)

pub returns-in-Some : goal.returns-in-Some
returns-in-Some c =
    let sides = c.args.sides.now in
    let says = by_sides (exp_of c.args.from.now) (exp_of c.args.to.now) sides.relation (exp_of sides.first.now) (exp_of sides.second.now)
    (exp_of c.in-Some.a.now) (exp_of c.in-Some.b.now) (exp_of c.args.rest.now)
    (never c.is_claim_made.result c.is_claim_made.ensures c.if-is_claim_made.false) c.in-Some.ensures.some in
    (λ yes. says.0 (c.are_both_rewritten.ensures.0 yes), λ so. c.are_both_rewritten.ensures.1 (says.1 so))
