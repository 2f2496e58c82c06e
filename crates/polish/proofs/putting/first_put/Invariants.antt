-- The first of what is left is the first of all.
use Rattle.std.proofs.Common.{length, string_bytes}
use Rattle.expression_lang.specs.CodeExpression.{exp_of}
use Rattle.monad_lang.specs.CodeProgram.{mon_of}
use Rattle.polish.specs.Passing.{IsPutLeft}
use Rattle.polish.proofs.putting.first_put.Given as goal

abbrev pub invariant-along : goal.invariant-along
invariant-along l = IsPutLeft string_bytes exp_of l.values l.names (mon_of l.rest) l.left l.right

abbrev pub decreases-along : goal.decreases-along
decreases-along l = length l.left
