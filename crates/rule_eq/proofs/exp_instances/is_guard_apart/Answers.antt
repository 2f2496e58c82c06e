-- Both are well-sorted.
use Rattle.std.proofs.Common.{ap}
use Rattle.expression_lang.specs.CodeExpression.{exp_of}
use Rattle.monad_lang.specs.Program as M
use Rattle.monad_lang.specs.CodeProgram.{mon_of}
use Rattle.rule_eq.specs.CodeRule.{point_in}
use Rattle.rule_eq.proofs.DirectParts.{guard_sorted, right_fits}
use Rattle.rule_eq.proofs.exp_instances.is_guard_apart.Goals as goal

pub is_apart-requires-clause-left : goal.is_apart-requires-clause-left
is_apart-requires-clause-left c = guard_sorted (point_in c.args.setting c.args.facts.now c.args.inside.now).setting (exp_of c.args.e.now) c.requires.left

pub is_apart-requires-clause-right : goal.is_apart-requires-clause-right
is_apart-requires-clause-right c =
    guard_sorted (point_in c.args.setting c.args.facts.now c.args.inside.now).setting (exp_of c.in-Guard.other)
    (right_fits (point_in c.args.setting c.args.facts.now c.args.inside.now).setting (mon_of c.args.right.now) (M.Guard (exp_of c.in-Guard.other)) (ap mon_of c.in-Guard.is) c.requires.right)
