-- Both are well-sorted.
use Rattle.std.proofs.Common.{map, string_bytes, ap, sym, ◌∙◌}
use Rattle.expression_lang.specs.CodeExpression.{exp_of}
use Rattle.monad_lang.specs.Program as M
use Rattle.monad_lang.specs.CodeProgram.{mon_of}
use Rattle.rule_eq.specs.CodeRule.{point_in}
use Rattle.rule_eq.proofs.DirectParts.{call_sorted, right_fits}
use Rattle.rule_eq.proofs.exp_instances.is_call_apart.Goals as goal

pub are_listed_apart-requires-clause-left : goal.are_listed_apart-requires-clause-left
are_listed_apart-requires-clause-left c = call_sorted (point_in c.args.setting c.args.facts.now c.args.inside.now).setting c.args.function.now (map exp_of c.args.exps.now) c.requires.left

pub are_listed_apart-requires-clause-right : goal.are_listed_apart-requires-clause-right
are_listed_apart-requires-clause-right c =
    call_sorted (point_in c.args.setting c.args.facts.now c.args.inside.now).setting (string_bytes c.in-Call.other) (map exp_of c.deref.result.now)
    (right_fits (point_in c.args.setting c.args.facts.now c.args.inside.now).setting (mon_of c.args.right.now) (M.Call (string_bytes c.in-Call.other) (map exp_of c.deref.result.now))
    (ap mon_of c.in-Call.is ∙ ap (λ es. M.Call (string_bytes c.in-Call.other) (map exp_of es)) (sym c.deref.ensures.value)) c.requires.right)
