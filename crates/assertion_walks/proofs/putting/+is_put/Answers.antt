-- The heads decide, and then the children, one after the other.
use Rattle.std.proofs.Common.{rules, ◌≡◌, ◌<◌, ◌∷◌, None, subst}
use Rattle.std.proofs.lemmas.Bool.{false≢true}
use Rattle.expression_lang.specs.CodeExpression.{exp_of}
use Rattle.ac_expr.specs.CodeApart.{IsAmong, size}
use Rattle.ac_expr.specs.CodeHeads.{children_in}
use Rattle.ac_expr.proofs.ApartThere.{never, first_among, rest_among, child_smaller}
use Rattle.ac_expr.specs.Heads.{children}
use Rattle.assertion_walks.specs.CodePut.{in_places_by}
use Rattle.assertion_walks.proofs.ChangedParts.{other_head, changed_by_children, rest_changed}
use Rattle.assertion_walks.proofs.putting.+is_put.Goals as goal

pub returns-then-not-same_head : goal.returns-then-not-same_head
returns-then-not-same_head g t c =
    let f = in_places_by (g.V.Values.value_of c.args.values.now) in
    let none : f (exp_of c.args.whole.now) ≡ None = search rules in (
      (λ yes. absurd (false≢true yes)),
      (λ so. absurd (other_head f (exp_of c.args.whole.now) (exp_of c.args.other.now) none
          (never c.same_head.result c.same_head.ensures c.if-not-same_head.true) so)),
    )

pub along-init : goal.along-init
along-init g t c =
    let f = in_places_by (g.V.Values.value_of c.args.values.now) in
    let none : f (exp_of c.args.whole.now) ≡ None = search rules in
    record {
      same = changed_by_children f (exp_of c.args.whole.now) (exp_of c.args.other.now) _ _ none
          (c.same_head.ensures.0 c.if-not-same_head.false) c.children_of-ones.ensures c.children_of-others.ensures;
      among = λ y i. subst (λ es. IsAmong y es) c.children_of-ones.ensures i;
    }

pub is_put-requires : goal.is_put-requires
is_put-requires g t c κs within =
    let ones : children_in c.along.ones ≡ exp_of c.in-Some-next.a.now ∷ children_in c.in-Some-next.behind = search rules in
    let among : IsAmong (exp_of c.in-Some-next.a.now) (children (exp_of c.args.whole.now)) =
    first_among _ _ _ _ ones c.along.invariant.among in
    (subst (λ n. size (exp_of c.in-Some-next.a.now) < n) c.decreases (child_smaller (exp_of c.args.whole.now) _ among), within)

pub along-preserved : goal.along-preserved
along-preserved g t c =
    let f = in_places_by (g.V.Values.value_of c.args.values.now) in
    let ones : children_in c.along.ones ≡ exp_of c.in-Some-next.a.now ∷ children_in c.in-Some-next.behind = search rules in
    let others : children_in c.along.others ≡ exp_of c.in-Some-next-2.b.now ∷ children_in c.in-Some-next-2.rest = search rules in
    record {
      same = rest_changed f (exp_of c.in-Some-next.a.now) (exp_of c.in-Some-next-2.b.now) _ _ (children_in c.along.ones)
          (children_in c.along.others) ones others (c.is_put.ensures.0 c.if-not-is_put.false) c.along.invariant.same;
      among = rest_among _ _ _ _ ones c.along.invariant.among;
    }
