-- Those behind what is left have other names.
use Rattle.std.proofs.Common.{◌≡◌, length}
use Rattle.program_sorts.specs.declared.phases.Phase.TheVariants.{OnNumbers}
use Rattle.monad_sorts.specs.CodeInside.{parameters_in, no_names}
use Rattle.hoare_check.proofs.triple_names.ParametersScope.scalar.Given as goal

abbrev pub invariant-along : goal.invariant-along
invariant-along l = parameters_in OnNumbers l.rest no_names l.name ≡ parameters_in OnNumbers l.self.binders.now no_names l.name

abbrev pub decreases-along : goal.decreases-along
decreases-along l = length l.rest
