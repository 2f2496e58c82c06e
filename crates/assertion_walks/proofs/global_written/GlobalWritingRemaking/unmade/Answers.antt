-- By what the steps lead out of, or by the heads.
use Rattle.std.proofs.Common.{rules, ◌≡◌, Some, None, ◌∙◌}
use Rattle.c_values.proofs.Options.{some_is, none_some}
use Rattle.ac_expr.proofs.ApartThere.{never}
use Rattle.expression_lang.specs.CodeExpression.{exp_of, path_of}
use Rattle.assertion_walks.specs.CodeRebuilt.{peeled}
use Rattle.assertion_walks.proofs.UnmadeParts.{own_parts_unmade, global_unmade, never_global, stays_other}
use Rattle.assertion_walks.proofs.global_written.GlobalWritingRemaking.unmade.Goals as goal

pub returns-then-is_global_after-clause-some : goal.returns-then-is_global_after-clause-some
returns-then-is_global_after-clause-some c =
    let own = c.in-Some.ensures.some in
    let at : Some (exp_of c.in-Some-peeled.whole.now) ≡ peeled (path_of c.in-Some.way.now) (exp_of c.args.other.now) = search rules in
    global_unmade c.args.self.now.name.now (path_of c.args.self.now.path.now) (exp_of c.args.self.now.value.now) (exp_of c.args.e.now)
    (exp_of c.args.other.now) own.0 (path_of c.in-Some.way.now) own.1 own.2 (exp_of c.in-Some-peeled.whole.now) at
    (c.is_global_after.ensures.0 c.if-is_global_after.true)

pub returns-else-is_global_after-clause-none : goal.returns-else-is_global_after-clause-none
returns-else-is_global_after-clause-none c =
    let own = c.in-Some.ensures.some in
    let at : Some (exp_of c.in-Some-peeled.whole.now) ≡ peeled (path_of c.in-Some.way.now) (exp_of c.args.other.now) = search rules in
    never_global c.args.self.now.name.now (path_of c.args.self.now.path.now) (exp_of c.args.self.now.value.now) (exp_of c.args.e.now)
    (exp_of c.args.other.now) own.0 (path_of c.in-Some.way.now) own.1 own.2 (Some (exp_of c.in-Some-peeled.whole.now)) at
    (λ whole h k. never c.is_global_after.result c.is_global_after.ensures c.if-is_global_after.false (some_is h ∙ k))

pub returns-in-None-peeled-clause-none : goal.returns-in-None-peeled-clause-none
returns-in-None-peeled-clause-none c =
    let own = c.in-Some.ensures.some in
    let at : None ≡ peeled (path_of c.in-Some.way.now) (exp_of c.args.other.now) = search rules in
    never_global c.args.self.now.name.now (path_of c.args.self.now.path.now) (exp_of c.args.self.now.value.now) (exp_of c.args.e.now)
    (exp_of c.args.other.now) own.0 (path_of c.in-Some.way.now) own.1 own.2 None at (λ whole h k. none_some h)

pub returns-in-None-clause-some : goal.returns-in-None-clause-some
returns-in-None-clause-some c =
    own_parts_unmade _ (exp_of c.args.e.now) (exp_of c.args.other.now)
    (stays_other c.args.self.now.name.now (path_of c.args.self.now.path.now) (exp_of c.args.self.now.value.now) (exp_of c.args.e.now)
    (exp_of c.args.other.now) c.in-None.ensures.none) c.own_parts.result c.own_parts.ensures.some
