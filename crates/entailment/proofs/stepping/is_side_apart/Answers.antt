-- The sides of well-sorted claims are well-sorted.
use Rattle.expression_lang.specs.CodeExpression.{exp_of}
use Rattle.entailment.specs.CodeClaim.{scope_at}
use Rattle.entailment.proofs.TruthValues.{sides_sorted}
use Rattle.entailment.proofs.stepping.is_side_apart.Goals as goal

pub are_apart-requires-clause-left : goal.are_apart-requires-clause-left
are_apart-requires-clause-left g c =
    let sides = c.args.sides.now in
    (sides_sorted (scope_at g.N.Scope.scalars c.args.site.now) sides.relation (exp_of sides.first.now) (exp_of sides.second.now) c.requires.sides).0

pub are_apart-requires-clause-right : goal.are_apart-requires-clause-right
are_apart-requires-clause-right g c =
    let relation = c.args.sides.now.relation in
    (sides_sorted (scope_at g.N.Scope.scalars c.args.site.now) relation (exp_of c.args.first.now) (exp_of c.args.second.now) c.requires.others).0

pub are_apart-requires-then-same-2-clause-left : goal.are_apart-requires-then-same-2-clause-left
are_apart-requires-then-same-2-clause-left g c =
    let sides = c.args.sides.now in
    (sides_sorted (scope_at g.N.Scope.scalars c.args.site.now) sides.relation (exp_of sides.first.now) (exp_of sides.second.now) c.requires.sides).1

pub are_apart-requires-then-same-2-clause-right : goal.are_apart-requires-then-same-2-clause-right
are_apart-requires-then-same-2-clause-right g c =
    let relation = c.args.sides.now.relation in
    (sides_sorted (scope_at g.N.Scope.scalars c.args.site.now) relation (exp_of c.args.first.now) (exp_of c.args.second.now) c.requires.others).1
