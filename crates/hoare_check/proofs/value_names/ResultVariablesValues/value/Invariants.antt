-- What is left gives the name what the whole gives it.
use Rattle.std.proofs.Common.{◌≡◌, length}
use Rattle.hoare_check.specs.DeriveTable.{variables}
use Rattle.assertion_walks.specs.Put.{exp_for}
use Rattle.hoare_check.specs.CodeResults.{names_of}
use Rattle.hoare_check.proofs.value_names.ResultVariablesValues.value.Given as goal

abbrev pub invariant-along : goal.invariant-along
invariant-along l =
    exp_for (names_of l.names) (variables (names_of l.variables)) l.name
    ≡ exp_for (names_of l.self.results) (variables (names_of l.self.others)) l.name

abbrev pub decreases-along : goal.decreases-along
decreases-along l = length (names_of l.names)
