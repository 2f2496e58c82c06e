-- What is left decides it.
use Rattle.std.proofs.Common.{◌≡◌, length}
use Rattle.expression_lang.specs.CodeExpression.{exp_of}
use Rattle.ac_expr.specs.Lasting.{is_unnamed}
use Rattle.hoare_check.specs.CodeResults.{names_of}
use Rattle.hoare_check.proofs.called.is_without.Given as goal

abbrev pub invariant-along : goal.invariant-along
invariant-along l = is_unnamed (names_of l.rest) (exp_of l.e) ≡ is_unnamed (names_of l.names) (exp_of l.e)

abbrev pub decreases-along : goal.decreases-along
decreases-along l = length (names_of l.rest)
