-- By the first of what is left of both.
use Rattle.std.proofs.Common.{rules, ◌≡◌, ◌≢◌, ◌∷◌}
use Rattle.expression_lang.specs.CodeExpression.{exp_of}
use Rattle.ac_expr.proofs.ApartThere.{never}
use Rattle.rule_parts.specs.CodeExps.{exps_in}
use Rattle.rule_eq.specs.CodeRule.{point_in}
use Rattle.rule_eq.proofs.OneApart.{found, goes_on, rest_differs}
use Rattle.rule_eq.proofs.RowsSorted.{rest_sorted}
use Rattle.rule_eq.proofs.exps.is_one_apart.Goals as goal

pub returns-then-same_exps : goal.returns-then-same_exps
returns-then-same_exps c =
    let ones : exps_in c.along.ones ≡ exp_of c.in-Some.a.now ∷ exps_in c.in-Some.behind = search rules in
    let others : exps_in c.along.others ≡ exp_of c.in-Some-next.b.now ∷ exps_in c.in-Some-next.rest = search rules in
    let says = found (point_in c.args.setting c.args.facts.now c.args.inside.now) (exps_in c.args.left) (exps_in c.args.right) (exps_in c.along.ones) (exps_in c.along.others) (exp_of c.in-Some.a.now) (exp_of c.in-Some-next.b.now) (exps_in c.in-Some.behind) (exps_in c.in-Some-next.rest) c.along.invariant.same ones others (never c.same.result c.same.ensures c.if-not-same.true) in
    ((λ yes. says.0 (c.same_exps.ensures.0 c.if-same_exps.true, c.is_apart.ensures.0 yes)), (λ k. c.is_apart.ensures.1 (says.1 k).1))

pub along-preserved : goal.along-preserved
along-preserved c =
    let ones : exps_in c.along.ones ≡ exp_of c.in-Some.a.now ∷ exps_in c.in-Some.behind = search rules in
    let others : exps_in c.along.others ≡ exp_of c.in-Some-next.b.now ∷ exps_in c.in-Some-next.rest = search rules in
    let same : exp_of c.in-Some-next.b.now ≡ exp_of c.in-Some.a.now = c.same.ensures.0 c.if-not-same.false in
    let differ : exps_in c.in-Some-next.rest ≢ exps_in c.in-Some.behind = rest_differs (point_in c.args.setting c.args.facts.now c.args.inside.now) (exps_in c.args.left) (exps_in c.args.right) (exps_in c.along.ones) (exps_in c.along.others) (exp_of c.in-Some.a.now) (exp_of c.in-Some-next.b.now) (exps_in c.in-Some.behind) (exps_in c.in-Some-next.rest) c.along.invariant.same ones others same c.along.invariant.differ in
    record {
      differ = differ;
      same = goes_on (point_in c.args.setting c.args.facts.now c.args.inside.now) (exps_in c.args.left) (exps_in c.args.right) (exps_in c.along.ones) (exps_in c.along.others) (exp_of c.in-Some.a.now) (exp_of c.in-Some-next.b.now) (exps_in c.in-Some.behind) (exps_in c.in-Some-next.rest) c.along.invariant.same ones others same differ;
      sorted_left = rest_sorted (point_in c.args.setting c.args.facts.now c.args.inside.now).setting.scope _ _ _ ones c.along.invariant.sorted_left;
      sorted_right = rest_sorted (point_in c.args.setting c.args.facts.now c.args.inside.now).setting.scope _ _ _ others c.along.invariant.sorted_right;
    }
