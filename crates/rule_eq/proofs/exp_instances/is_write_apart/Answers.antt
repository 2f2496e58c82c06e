-- Both are well-sorted.
use Rattle.std.proofs.Common.{ap}
use Rattle.expression_lang.specs.CodeExpression.{exp_of}
use Rattle.monad_lang.specs.Program as M
use Rattle.monad_lang.specs.CodeProgram.{place_of, mon_of}
use Rattle.rule_eq.specs.CodeRule.{point_in}
use Rattle.rule_eq.proofs.DirectParts.{write_is_sorted, right_fits}
use Rattle.rule_eq.proofs.exp_instances.is_write_apart.Goals as goal

pub are_written_apart-requires-clause-left : goal.are_written_apart-requires-clause-left
are_written_apart-requires-clause-left c = write_is_sorted (point_in c.args.setting c.args.facts.now c.args.inside.now).setting (place_of c.args.place.now) (exp_of c.args.e.now) c.requires.left

pub are_written_apart-requires-clause-right : goal.are_written_apart-requires-clause-right
are_written_apart-requires-clause-right c =
    write_is_sorted (point_in c.args.setting c.args.facts.now c.args.inside.now).setting (place_of c.in-Write.other_place) (exp_of c.in-Write.other)
    (right_fits (point_in c.args.setting c.args.facts.now c.args.inside.now).setting (mon_of c.args.right.now) (M.Write (place_of c.in-Write.other_place) (exp_of c.in-Write.other)) (ap mon_of c.in-Write.is) c.requires.right)
