-- The left side is well-sorted.
use Rattle.std.proofs.Common.{map}
use Rattle.expression_lang.specs.CodeExpression.{exp_of}
use Rattle.monad_lang.specs.CodeProgram.{start_of, mon_of}
use Rattle.rule_eq.specs.CodeRule.{point_in}
use Rattle.rule_eq.proofs.DirectParts.{starts_sorted, loop_guard_sorted, loop_test_sorted}
use Rattle.rule_eq.proofs.exp_instances.is_turn_apart.Goals as goal

pub is_apart_before-requires-clause-left : goal.is_apart_before-requires-clause-left
is_apart_before-requires-clause-left c = starts_sorted (point_in c.args.setting c.args.facts.now c.args.inside.now).setting (map start_of c.args.starts.now) (exp_of c.args.guard.now) (exp_of c.args.test.now) (mon_of c.args.m.now) c.requires.left

pub is_apart_at_guard-requires-clause-left : goal.is_apart_at_guard-requires-clause-left
is_apart_at_guard-requires-clause-left c = loop_guard_sorted (point_in c.args.setting c.args.facts.now c.args.inside.now).setting (map start_of c.args.starts.now) (exp_of c.args.guard.now) (exp_of c.args.test.now) (mon_of c.args.m.now) c.requires.left

pub is_apart_at_test-requires-clause-left : goal.is_apart_at_test-requires-clause-left
is_apart_at_test-requires-clause-left c = loop_test_sorted (point_in c.args.setting c.args.facts.now c.args.inside.now).setting (map start_of c.args.starts.now) (exp_of c.args.guard.now) (exp_of c.args.test.now) (mon_of c.args.m.now) c.requires.left
