-- What is left are variables of the names where all are.
use Rattle.std.proofs.Common.{◌≡◌, map, length, string_bytes}
use Rattle.expression_lang.specs.CodeExpression.{exp_of}
use Rattle.monad_lang.specs.Form.{are_vars}
use Rattle.polish.proofs.settling.are_vars.Given as goal

abbrev pub invariant-along : goal.invariant-along
invariant-along l =
    are_vars (map string_bytes l.left) (map exp_of l.right) ≡ are_vars (map string_bytes l.names) (map exp_of l.exps)

abbrev pub decreases-along : goal.decreases-along
decreases-along l = length l.left
