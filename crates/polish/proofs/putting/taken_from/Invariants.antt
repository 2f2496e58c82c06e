-- The value is the one that is left at the position that is left, behind those that were passed.
use Rattle.std.proofs.Common.{◌≡◌, map, length, string_bytes}
use Rattle.expression_lang.specs.CodeExpression.{exp_of}
use Rattle.rule_eq.specs.Table.{taken_at}
use Rattle.polish.specs.CodePutting.{passed_over}
use Rattle.polish.proofs.putting.taken_from.Given as goal

abbrev pub invariant-along : goal.invariant-along
invariant-along l =
    passed_over (map exp_of l.exps.items) (map string_bytes l.own.items)
    (taken_at l.count (map exp_of l.left) (map string_bytes l.right))
    ≡ taken_at l.position (map exp_of l.values) (map string_bytes l.names)

abbrev pub decreases-along : goal.decreases-along
decreases-along l = length l.left
