-- A row of the table leads from one to the other, or one side decides.
use Rattle.std.proofs.Common.{inl, refl}
use Rattle.std.proofs.lemmas.Bool.{false≢true}
use Rattle.expression_lang.specs.CodeExpression.{exp_of}
use Rattle.ac_expr.specs.CodeChain.{facts_of}
use Rattle.ac_expr.specs.Step.{shorter, longer}
use Rattle.ac_expr.proofs.ApartThere.{never}
use Rattle.entailment.specs.CodeClaim.{scope_at}
use Rattle.entailment.proofs.ClaimSteps.{by_sides, other_head}
use Rattle.entailment.proofs.stepping.is_apart_from_sides.Goals as goal

pub returns-then-is_given : goal.returns-then-is_given
returns-then-is_given g c = (λ yes. shorter ((c.is_given.ensures (facts_of g.S.Sequence.parts c.args.facts.now)).0 c.if-is_given.true), λ so. refl)

pub returns-then-gives : goal.returns-then-gives
returns-then-gives g c = (
  λ yes. longer (inl ((c.gives.ensures (scope_at g.N.Scope.scalars c.args.site.now) (facts_of g.S.Sequence.parts c.args.facts.now)).0 c.if-gives.true)),
  λ so. refl,
)

pub returns-in-Some : goal.returns-in-Some
returns-in-Some g c =
    let sides = c.args.sides.now in
    let scope = scope_at g.N.Scope.scalars c.args.site.now in
    let facts = facts_of g.S.Sequence.parts c.args.facts.now in
    let says = by_sides scope facts sides.relation (exp_of sides.first.now) (exp_of sides.second.now) (exp_of c.args.rest.now)
    (never c.is_given.result (c.is_given.ensures facts) c.if-is_given.false) (never c.gives.result (c.gives.ensures scope facts) c.if-gives.false)
    (exp_of c.in-Some.first.now) (exp_of c.in-Some.second.now) c.in-Some.ensures.some in
    (λ yes. says.0 (c.is_side_apart.ensures.0 yes), λ so. c.is_side_apart.ensures.1 (says.1 so))

pub returns-in-None : goal.returns-in-None
returns-in-None g c =
    let sides = c.args.sides.now in
    let scope = scope_at g.N.Scope.scalars c.args.site.now in
    let facts = facts_of g.S.Sequence.parts c.args.facts.now in (
      λ yes. absurd (false≢true yes),
      λ so. absurd (other_head scope facts sides.relation (exp_of sides.first.now) (exp_of sides.second.now) (exp_of c.args.rest.now)
          (never c.is_given.result (c.is_given.ensures facts) c.if-is_given.false) (never c.gives.result (c.gives.ensures scope facts) c.if-gives.false)
          (c.in-None.ensures.none (exp_of sides.first.now) (exp_of sides.second.now)) so),
    )
