-- What is left decides it.
use Rattle.std.proofs.Common.{◌↔◌, map, length}
use Rattle.expression_lang.specs.CodeExpression.{exp_of}
use Rattle.exactness.specs.Triple.{logical_sorts}
use Rattle.hoare_check.specs.DeriveTable.{AreLogicalValues, scope}
use Rattle.triple_lang.specs.CodeDeriv.{logical_of}
use Rattle.hoare_check.specs.CodePosed.{ground_of}
use Rattle.hoare_check.specs.CodeResults.{names_of}
use Rattle.hoare_check.proofs.called.are_logical_values.Given as goal

abbrev pub invariant-along : goal.invariant-along
invariant-along g l =
    AreLogicalValues (scope (ground_of l.ground) (g.N.Scope.scalars l.names)) (names_of l.results) (logical_sorts (map logical_of l.own)) (map exp_of l.rest)
    ↔ AreLogicalValues (scope (ground_of l.ground) (g.N.Scope.scalars l.names)) (names_of l.results) (logical_sorts (map logical_of l.logicals))
    (map exp_of l.values)

abbrev pub decreases-along : goal.decreases-along
decreases-along g l = length l.own
