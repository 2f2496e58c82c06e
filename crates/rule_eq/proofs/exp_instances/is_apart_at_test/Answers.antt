-- The right side is well-sorted.
use Rattle.std.proofs.Common.{map, ap}
use Rattle.expression_lang.specs.CodeExpression.{exp_of}
use Rattle.monad_lang.specs.Program as M
use Rattle.monad_lang.specs.CodeProgram.{start_of, mon_of}
use Rattle.rule_eq.specs.CodeRule.{point_in}
use Rattle.rule_eq.proofs.DirectParts.{loop_test_sorted, right_fits}
use Rattle.rule_eq.proofs.exp_instances.is_apart_at_test.Goals as goal

pub are_tests_apart-requires-clause-right : goal.are_tests_apart-requires-clause-right
are_tests_apart-requires-clause-right c =
    loop_test_sorted (point_in c.args.setting c.args.facts.now c.args.inside.now).setting (map start_of c.in-Loop.others.items) (exp_of c.in-Loop.other_guard) (exp_of c.in-Loop.other_test) (mon_of c.in-Loop._body.value)
    (right_fits (point_in c.args.setting c.args.facts.now c.args.inside.now).setting (mon_of c.args.right.now)
    (M.Loop (map start_of c.in-Loop.others.items) (exp_of c.in-Loop.other_guard) (exp_of c.in-Loop.other_test) (mon_of c.in-Loop._body.value))
    (ap mon_of c.in-Loop.is) c.requires.right)
