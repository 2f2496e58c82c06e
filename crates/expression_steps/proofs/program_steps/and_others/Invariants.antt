-- What is copied so far, and what is left, are all.
use Rattle.std.proofs.Common.{◌≡◌, ◌++◌, map, length}
use Rattle.expression_lang.specs.CodeExpression.{exp_of}
use Rattle.expression_steps.proofs.program_steps.and_others.Given as goal

abbrev pub invariant-along : goal.invariant-along
invariant-along l = map exp_of l.all.items ++ map exp_of l.rest ≡ map exp_of l.fn.before.items ++ map exp_of l.exps

abbrev pub decreases-along : goal.decreases-along
decreases-along l = length l.rest
