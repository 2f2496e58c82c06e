-- By the parts that the other has to have, one after the other.
use Rattle.std.proofs.Common.{rules, ◌≡◌, ◌<◌, [], ◌∷◌, subst}
use Rattle.expression_lang.specs.CodeExpression.{exp_of}
use Rattle.ac_expr.specs.Heads.{children}
use Rattle.ac_expr.specs.CodeApart.{IsAmong, size}
use Rattle.ac_expr.specs.CodeHeads.{children_in}
use Rattle.ac_expr.proofs.ApartThere.{first_among, rest_among, child_smaller}
use Rattle.assertion_walks.specs.CodeRebuilt.{parts_in}
use Rattle.assertion_walks.proofs.RebuiltParts.{by_parts, ends_together, rest_rebuilt}
use Rattle.assertion_walks.proofs.rebuilding.+is_rebuilt.Goals as goal

pub along-init : goal.along-init
along-init g t c = record {
  same = by_parts (g.R.Remaking.Changes c.args.remaking.now) (exp_of c.args.e.now) (exp_of c.args.other.now)
      (children_in c.children_of-ones.result) (parts_in c.in-Some.parts) c.in-Some.ensures.some c.children_of-ones.ensures;
  among = λ y i. subst (λ es. IsAmong y es) c.children_of-ones.ensures i;
}

pub returns-in_default-next : goal.returns-in_default-next
returns-in_default-next g t c =
    let ones : children_in c.along.ones ≡ [] = search rules in
    let end = ends_together (g.R.Remaking.Changes c.args.remaking.now) (children_in c.along.ones) (parts_in c.along.others) ones
    c.along.invariant.same in
    ((λ yes. end.0 (c.is_empty.ensures.0 yes)), (λ k. c.is_empty.ensures.1 (end.1 k)))

pub is_rebuilt-requires : goal.is_rebuilt-requires
is_rebuilt-requires g t c κs within =
    let ones : children_in c.along.ones ≡ exp_of c.in-Some-next.a.now ∷ children_in c.in-Some-next.behind = search rules in
    let among : IsAmong (exp_of c.in-Some-next.a.now) (children (exp_of c.args.e.now)) =
    first_among _ _ _ _ ones c.along.invariant.among in
    (subst (λ n. size (exp_of c.in-Some-next.a.now) < n) c.decreases (child_smaller (exp_of c.args.e.now) _ among), within)

pub along-preserved : goal.along-preserved
along-preserved g t c =
    let ones : children_in c.along.ones ≡ exp_of c.in-Some-next.a.now ∷ children_in c.in-Some-next.behind = search rules in
    let others : parts_in c.along.others ≡ exp_of c.in-Some-next-2.b.now ∷ parts_in c.in-Some-next-2.rest = search rules in
    record {
      same = rest_rebuilt (g.R.Remaking.Changes c.args.remaking.now) (exp_of c.in-Some-next.a.now) (exp_of c.in-Some-next-2.b.now) _ _
          (children_in c.along.ones) (parts_in c.along.others) ones others c.along.invariant.same
          (c.is_rebuilt.ensures.0 c.if-not-is_rebuilt.false);
      among = rest_among _ _ _ _ ones c.along.invariant.among;
    }
