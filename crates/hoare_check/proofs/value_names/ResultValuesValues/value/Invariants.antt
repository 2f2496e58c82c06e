-- What is left gives the name what the whole gives it.
use Rattle.std.proofs.Common.{◌≡◌, map, length}
use Rattle.expression_lang.specs.CodeExpression.{exp_of}
use Rattle.assertion_walks.specs.Put.{exp_for}
use Rattle.hoare_check.specs.CodeResults.{names_of}
use Rattle.hoare_check.proofs.value_names.ResultValuesValues.value.Given as goal

abbrev pub invariant-along : goal.invariant-along
invariant-along l =
    exp_for (names_of l.names) (map exp_of l.exps) l.name
    ≡ exp_for (names_of l.self.results) (map exp_of l.self.exps.now) l.name

abbrev pub decreases-along : goal.decreases-along
decreases-along l = length l.exps
