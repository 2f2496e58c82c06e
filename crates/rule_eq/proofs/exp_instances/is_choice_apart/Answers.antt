-- Both are well-sorted.
use Rattle.std.proofs.Common.{ap}
use Rattle.expression_lang.specs.CodeExpression.{exp_of}
use Rattle.monad_lang.specs.Program as M
use Rattle.monad_lang.specs.CodeProgram.{mon_of}
use Rattle.rule_eq.specs.CodeRule.{point_in}
use Rattle.rule_eq.proofs.DirectParts.{test_sorted, right_fits}
use Rattle.rule_eq.proofs.exp_instances.is_choice_apart.Goals as goal

pub is_apart-requires-clause-left : goal.is_apart-requires-clause-left
is_apart-requires-clause-left c =
    test_sorted (point_in c.args.setting c.args.facts.now c.args.inside.now).setting (exp_of c.args.e.now) (mon_of c.args.m.now) (mon_of c.args.n.now) c.requires.left

pub is_apart-requires-clause-right : goal.is_apart-requires-clause-right
is_apart-requires-clause-right c =
    test_sorted (point_in c.args.setting c.args.facts.now c.args.inside.now).setting (exp_of c.in-If.other) (mon_of c.in-If.first.value) (mon_of c.in-If.last.value)
    (right_fits (point_in c.args.setting c.args.facts.now c.args.inside.now).setting (mon_of c.args.right.now) (M.If (exp_of c.in-If.other) (mon_of c.in-If.first.value) (mon_of c.in-If.last.value))
    (ap mon_of c.in-If.is) c.requires.right)
