-- What is left is no deeper than what was to be dropped.
use Rattle.std.proofs.Common.{◌≤◌}
use Rattle.local_lift.specs.declared.plan.Fronts.{size-Fronts}
use Rattle.local_lift.proofs.plan.+drop_plan.Given as goal

abbrev pub invariant-Fronts::drop-loop-self : goal.invariant-Fronts::drop-loop-self
invariant-Fronts::drop-loop-self l = size-Fronts l.self ≤ size-Fronts l.initial.self
