-- What is left decides it.
use Rattle.std.proofs.Common.{◌≡◌, length}
use Rattle.expression_lang.specs.CodeExpression.{exp_of}
use Rattle.hoare_check.specs.DeriveTable.{are_free_for}
use Rattle.hoare_check.specs.CodeResults.{names_of}
use Rattle.hoare_check.proofs.value_names.are_free_for.Given as goal

abbrev pub invariant-along : goal.invariant-along
invariant-along l =
    are_free_for (names_of l.rest) (names_of l.results) (exp_of l.e) ≡ are_free_for (names_of l.names) (names_of l.results) (exp_of l.e)

abbrev pub decreases-along : goal.decreases-along
decreases-along l = length (names_of l.rest)
