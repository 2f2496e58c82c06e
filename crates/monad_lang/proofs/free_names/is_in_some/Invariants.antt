-- What is left has the name where all have.
use Rattle.std.proofs.Common.{◌≡◌, map, length}
use Rattle.expression_lang.specs.CodeExpression.{exp_of}
use Rattle.monad_lang.specs.Names.{is_in_some}
use Rattle.monad_lang.proofs.free_names.is_in_some.Given as goal

abbrev pub invariant-along : goal.invariant-along
invariant-along l = is_in_some l.name (map exp_of l.rest) ≡ is_in_some l.name (map exp_of l.exps)

abbrev pub decreases-along : goal.decreases-along
decreases-along l = length l.rest
