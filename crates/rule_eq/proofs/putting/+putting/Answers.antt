-- The heads decide, and then what the children show; behind the first of two rows the others do.
use Rattle.std.proofs.Common.{rules, ◌≡◌, ◌<◌, ◌+◌, ◌*◌, ◌∷◌, [], refl, sym, subst, ◌∙◌, arith}
use Rattle.std.proofs.lemmas.Bool.{false≢true}
use Rattle.expression_lang.specs.CodeExpression.{exp_of}
use Rattle.ac_expr.specs.CodeApart.{IsAmong, size}
use Rattle.ac_expr.specs.CodeHeads.{children_in}
use Rattle.ac_expr.proofs.ApartThere.{never, first_among, rest_among, child_smaller}
use Rattle.rule_eq.proofs.PutParts.{other_head, row_put, rest_put, children_less, rest_less, sizes}
use Rattle.rule_eq.proofs.PutSays.{says_by}
use Rattle.rule_eq.proofs.putting.+putting.Goals as goal

pub is_put-returns-then-not-same_head : goal.is_put-returns-then-not-same_head
is_put-returns-then-not-same_head t c = (
  (λ yes. absurd (false≢true yes)),
  (λ so. absurd (other_head c.args.name.now (exp_of c.args.value.now) (exp_of c.down.left.now) (exp_of c.down.right.now) (sym c.is_it.ensures ∙ c.if-is_it.false) (never c.same_head.result c.same_head.ensures c.if-not-same_head.true) (c.down.invariant.same.1 so))),
)

pub is_put-look-requires : goal.is_put-look-requires
is_put-look-requires t c =
    let less : 2 * sizes (children_in c.children_of.result) + 1 < 2 * size (exp_of c.args.e.now) = children_less (exp_of c.down.left.now) (exp_of c.args.e.now) (children_in c.children_of.result) c.children_of.ensures c.down.invariant.smaller in
    (omega (arith, less), tt)

pub is_put-returns-in-Differ : goal.is_put-returns-in-Differ
is_put-returns-in-Differ t c =
    let here = row_put c.args.name.now (exp_of c.args.value.now) (exp_of c.down.left.now) (exp_of c.down.right.now) (children_in c.children_of.result) (children_in c.children_of-in-down.result) (sym c.is_it.ensures ∙ c.if-is_it.false) (c.same_head.ensures.0 c.if-not-same_head.false) c.children_of.ensures c.children_of-in-down.ensures in
    ((λ yes. absurd (false≢true yes)), (λ so. absurd (c.in-Differ.ensures.says (here.1 (c.down.invariant.same.1 so)))))

pub is_put-returns-in-Same : goal.is_put-returns-in-Same
is_put-returns-in-Same t c =
    let here = row_put c.args.name.now (exp_of c.args.value.now) (exp_of c.down.left.now) (exp_of c.down.right.now) (children_in c.children_of.result) (children_in c.children_of-in-down.result) (sym c.is_it.ensures ∙ c.if-is_it.false) (c.same_head.ensures.0 c.if-not-same_head.false) c.children_of.ensures c.children_of-in-down.ensures in
    ((λ yes. c.down.invariant.same.0 (here.0 c.in-Same.ensures.says)), (λ so. refl))

pub is_put-down-smaller : goal.is_put-down-smaller
is_put-down-smaller t c =
    child_smaller (exp_of c.down.left.now) (exp_of c.in-AsLast.last.now)
    (subst (λ es. IsAmong (exp_of c.in-AsLast.last.now) es) c.children_of.ensures c.in-AsLast.ensures.among)

pub is_put-down-preserved : goal.is_put-down-preserved
is_put-down-preserved t c =
    let here = row_put c.args.name.now (exp_of c.args.value.now) (exp_of c.down.left.now) (exp_of c.down.right.now) (children_in c.children_of.result) (children_in c.children_of-in-down.result) (sym c.is_it.ensures ∙ c.if-is_it.false) (c.same_head.ensures.0 c.if-not-same_head.false) c.children_of.ensures c.children_of-in-down.ensures in
    let says = c.in-AsLast.ensures.says in
    let less : size (exp_of c.in-AsLast.last.now) < size (exp_of c.down.left.now) = child_smaller (exp_of c.down.left.now) (exp_of c.in-AsLast.last.now) (subst (λ es. IsAmong (exp_of c.in-AsLast.last.now) es) c.children_of.ensures c.in-AsLast.ensures.among) in
    record {
      same = ((λ j. c.down.invariant.same.0 (here.0 (says.0 j))), (λ so. says.1 (here.1 (c.down.invariant.same.1 so))));
      smaller = omega (arith, less, c.down.invariant.smaller);
    }

pub look-returns-in_default-clause-says : goal.look-returns-in_default-clause-says
look-returns-in_default-clause-says t c =
    let none : children_in c.along.ones ≡ [] = search rules in
    says_by c.args.name.now (exp_of c.args.value.now) c.at_end.result (children_in c.along.ones) (children_in c.along.others) (children_in c.args.left) (children_in c.args.right) none c.along.invariant.same (c.at_end.ensures.says c.args.name.now (exp_of c.args.value.now))

pub look-returns-then-is_none-2-clause-among : goal.look-returns-then-is_none-2-clause-among
look-returns-then-is_none-2-clause-among t c =
    let ones : children_in c.along.ones ≡ exp_of c.in-Some.a.now ∷ children_in c.in-Some.behind = search rules in
    first_among _ _ _ (children_in c.args.left) ones c.along.invariant.among

pub look-along-preserved : goal.look-along-preserved
look-along-preserved t c =
    let ones : children_in c.along.ones ≡ exp_of c.in-Some.a.now ∷ children_in c.in-Some.behind = search rules in
    let others : children_in c.along.others ≡ exp_of c.in-Some-next.b.now ∷ children_in c.in-Some-next.rest = search rules in
    record {
      same = rest_put c.args.name.now (exp_of c.args.value.now) (exp_of c.in-Some.a.now) (exp_of c.in-Some-next.b.now) (children_in c.in-Some.behind) (children_in c.in-Some-next.rest) (children_in c.along.ones) (children_in c.along.others) (children_in c.args.left) (children_in c.args.right) ones others (c.is_put.ensures.0 c.if-not-is_put.false) c.along.invariant.same;
      among = rest_among _ _ _ (children_in c.args.left) ones c.along.invariant.among;
      smaller = rest_less (exp_of c.in-Some.a.now) (children_in c.in-Some.behind) (children_in c.along.ones) (children_in c.args.left) ones c.along.invariant.smaller;
    }
