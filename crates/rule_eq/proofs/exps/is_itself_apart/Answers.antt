-- By the first of what is left.
use Rattle.std.proofs.Common.{rules, ◌≡◌, ◌∷◌, refl}
use Rattle.expression_lang.specs.CodeExpression.{exp_of}
use Rattle.ac_expr.proofs.ApartThere.{never}
use Rattle.rule_parts.specs.CodeExps.{exps_in}
use Rattle.rule_eq.specs.CodeRule.{point_in}
use Rattle.rule_eq.proofs.OneApart.{this_itself, rest_itself}
use Rattle.rule_eq.proofs.RowsSorted.{rest_sorted}
use Rattle.rule_eq.proofs.exps.is_itself_apart.Goals as goal

pub returns-then-is_apart : goal.returns-then-is_apart
returns-then-is_apart c =
    let first : exps_in c.along.rest ≡ exp_of c.in-Some.e.now ∷ exps_in c.in-Some.behind = search rules in
    ((λ yes. this_itself (point_in c.args.setting c.args.facts.now c.args.inside.now) (exps_in c.args.exps) (exps_in c.along.rest) c.along.invariant.same (exp_of c.in-Some.e.now) (exps_in c.in-Some.behind) first (c.is_apart.ensures.0 c.if-is_apart.true)), (λ k. refl))

pub along-preserved : goal.along-preserved
along-preserved c =
    let first : exps_in c.along.rest ≡ exp_of c.in-Some.e.now ∷ exps_in c.in-Some.behind = search rules in
    record {
      same = rest_itself (point_in c.args.setting c.args.facts.now c.args.inside.now) (exps_in c.args.exps) (exps_in c.along.rest) c.along.invariant.same (exp_of c.in-Some.e.now) (exps_in c.in-Some.behind) first (never c.is_apart.result c.is_apart.ensures c.if-is_apart.false);
      sorted = rest_sorted (point_in c.args.setting c.args.facts.now c.args.inside.now).setting.scope (exp_of c.in-Some.e.now) (exps_in c.in-Some.behind) (exps_in c.along.rest) first c.along.invariant.sorted;
    }
