-- What is left of the way has the indexes that the way has.
use Rattle.std.proofs.Common.{◌≡◌}
use Rattle.expression_lang.specs.CodeExpression.{exp_of, path_of}
use Rattle.assertion_walks.specs.CodeRebuilt.{indexes_in}
use Rattle.assertion_walks.proofs.peeling.next_index.Given as goal

abbrev pub invariant-steps : goal.invariant-steps
invariant-steps l = indexes_in (path_of l.rest) (exp_of l.e) ≡ indexes_in (path_of l.way) (exp_of l.e)
