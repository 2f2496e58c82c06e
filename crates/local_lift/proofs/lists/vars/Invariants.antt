-- What is made so far, and what is left, are all.
use Rattle.std.proofs.Common.{◌≡◌, ◌++◌, length, map, string_bytes}
use Rattle.expression_lang.specs.CodeExpression.{exp_of}
use Rattle.rule_local.specs.Table.{vars}
use Rattle.local_lift.proofs.lists.vars.Given as goal

abbrev pub invariant-along : goal.invariant-along
invariant-along l = map exp_of l.exps.items ++ vars (map string_bytes l.rest) ≡ vars (map string_bytes l.names)

abbrev pub decreases-along : goal.decreases-along
decreases-along l = length l.rest
