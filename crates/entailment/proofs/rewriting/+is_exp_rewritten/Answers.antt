-- The heads decide, and then the children.
use Rattle.std.proofs.Common.{rules, ◌≡◌, ◌<◌, ◌∷◌, [], refl, subst, arith}
use Rattle.std.proofs.lemmas.Bool.{false≢true}
use Rattle.expression_lang.specs.CodeExpression.{exp_of}
use Rattle.ac_expr.specs.CodeApart.{IsAmong, size}
use Rattle.ac_expr.specs.CodeHeads.{children_in}
use Rattle.ac_expr.proofs.ApartThere.{never, first_among, rest_among, child_smaller}
use Rattle.entailment.proofs.RewrittenParts.{made_there, by_children, other_head, at_end, goes_on}
use Rattle.entailment.proofs.rewriting.+is_exp_rewritten.Goals as goal

pub returns-then-is_made : goal.returns-then-is_made
returns-then-is_made t c =
    let made = c.is_made.ensures.0 c.if-is_made.true in
    (λ yes. made_there (exp_of c.args.from.now) (exp_of c.args.to.now) (exp_of c.args.e.now) (exp_of c.args.rest.now) made.0 made.1, λ so. refl)

pub returns-then-not-same_head : goal.returns-then-not-same_head
returns-then-not-same_head t c = (
  λ yes. absurd (false≢true yes),
  λ so. absurd (other_head (exp_of c.args.from.now) (exp_of c.args.to.now) (exp_of c.args.e.now) (exp_of c.args.rest.now)
      (never c.is_made.result c.is_made.ensures c.if-is_made.false) (never c.same_head.result c.same_head.ensures c.if-not-same_head.true) so),
)

pub along-init : goal.along-init
along-init t c = record {
  same = by_children (exp_of c.args.from.now) (exp_of c.args.to.now) (exp_of c.args.e.now) (exp_of c.args.rest.now) _ _
      (never c.is_made.result c.is_made.ensures c.if-is_made.false) (c.same_head.ensures.0 c.if-not-same_head.false)
      c.children_of-ones.ensures c.children_of-others.ensures;
  among = λ x k. subst (λ es. IsAmong x es) c.children_of-ones.ensures k;
}

pub returns-in_default : goal.returns-in_default
returns-in_default t c =
    let none : children_in c.along.ones ≡ [] = search rules in
    at_end (exp_of c.args.from.now) (exp_of c.args.to.now) (children_in c.along.ones) (children_in c.along.others) c.is_empty.result _ none
    c.is_empty.ensures c.along.invariant.same

pub is_exp_rewritten-requires : goal.is_exp_rewritten-requires
is_exp_rewritten-requires t c =
    let ones : children_in c.along.ones ≡ exp_of c.in-Some.a.now ∷ children_in c.in-Some.behind = search rules in
    let less : size (exp_of c.in-Some.a.now) < size (exp_of c.args.e.now) =
    child_smaller (exp_of c.args.e.now) (exp_of c.in-Some.a.now) (first_among _ _ _ _ ones c.along.invariant.among) in
    (omega (arith, less), tt)

pub along-preserved : goal.along-preserved
along-preserved t c =
    let ones : children_in c.along.ones ≡ exp_of c.in-Some.a.now ∷ children_in c.in-Some.behind = search rules in
    let others : children_in c.along.others ≡ exp_of c.in-Some-next.b.now ∷ children_in c.in-Some-next.left = search rules in
    record {
      same = goes_on (exp_of c.args.from.now) (exp_of c.args.to.now) (exp_of c.in-Some.a.now) (exp_of c.in-Some-next.b.now) _ _ _ _ _ ones others
          (c.is_exp_rewritten.ensures.0 c.if-not-is_exp_rewritten.false) c.along.invariant.same;
      among = rest_among _ _ _ _ ones c.along.invariant.among;
    }
