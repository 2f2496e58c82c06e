-- By the first of what is left of both.
use Rattle.std.proofs.Common.{rules, ◌≡◌, ◌≢◌, ◌∷◌}
use Rattle.expression_lang.specs.CodeExpression.{exp_of}
use Rattle.ac_expr.specs.CodeHeads.{children_in}
use Rattle.ac_expr.proofs.ApartThere.{found, lost, goes_on, rest_differs, first_among, rest_among}
use Rattle.ac_expr.proofs.differences.changed_child.Goals as goal

pub returns-then-same_children-clause-some : goal.returns-then-same_children-clause-some
returns-then-same_children-clause-some c = λ g fs.
    let ones : children_in c.along.ones ≡ exp_of c.in-Some.a.now ∷ children_in c.in-Some.behind = search rules in
    let others : children_in c.along.others ≡ exp_of c.in-Some-next.b.now ∷ children_in c.in-Some-next.rest = search rules in
    let differ : exp_of c.in-Some-next.b.now ≢ exp_of c.in-Some.a.now = search rules in
    let same : children_in c.in-Some-next.rest ≡ children_in c.in-Some.behind = search rules in
    found g fs (children_in c.args.left) (children_in c.args.right) (children_in c.along.ones) (children_in c.along.others) _ _ _ _ (c.along.invariant.same g fs) ones others differ same

pub returns-then-same_children-clause-left : goal.returns-then-same_children-clause-left
returns-then-same_children-clause-left c =
    let ones : children_in c.along.ones ≡ exp_of c.in-Some.a.now ∷ children_in c.in-Some.behind = search rules in
    first_among _ _ _ (children_in c.args.left) ones c.along.invariant.left

pub returns-then-same_children-clause-right : goal.returns-then-same_children-clause-right
returns-then-same_children-clause-right c =
    let others : children_in c.along.others ≡ exp_of c.in-Some-next.b.now ∷ children_in c.in-Some-next.rest = search rules in
    first_among _ _ _ (children_in c.args.right) others c.along.invariant.right

pub returns-then-not-same-clause-none : goal.returns-then-not-same-clause-none
returns-then-not-same-clause-none c = λ g fs.
    let ones : children_in c.along.ones ≡ exp_of c.in-Some.a.now ∷ children_in c.in-Some.behind = search rules in
    let others : children_in c.along.others ≡ exp_of c.in-Some-next.b.now ∷ children_in c.in-Some-next.rest = search rules in
    let differ : exp_of c.in-Some-next.b.now ≢ exp_of c.in-Some.a.now = search rules in
    let more : children_in c.in-Some-next.rest ≢ children_in c.in-Some.behind = search rules in
    lost g fs (children_in c.args.left) (children_in c.args.right) (children_in c.along.ones) (children_in c.along.others) _ _ _ _ (c.along.invariant.same g fs) ones others differ more

pub along-preserved : goal.along-preserved
along-preserved c =
    let ones : children_in c.along.ones ≡ exp_of c.in-Some.a.now ∷ children_in c.in-Some.behind = search rules in
    let others : children_in c.along.others ≡ exp_of c.in-Some-next.b.now ∷ children_in c.in-Some-next.rest = search rules in
    let e : exp_of c.in-Some-next.b.now ≡ exp_of c.in-Some.a.now = search rules in
    let differ : children_in c.in-Some-next.rest ≢ children_in c.in-Some.behind = rest_differs _ _ _ _ _ _ ones others e c.along.invariant.differ in
    record {
      differ = differ;
      same = λ g fs. goes_on g fs (children_in c.args.left) (children_in c.args.right) (children_in c.along.ones) (children_in c.along.others) _ _ _ _ (c.along.invariant.same g fs) ones others e differ;
      left = rest_among _ _ _ (children_in c.args.left) ones c.along.invariant.left;
      right = rest_among _ _ _ (children_in c.args.right) others c.along.invariant.right;
    }
