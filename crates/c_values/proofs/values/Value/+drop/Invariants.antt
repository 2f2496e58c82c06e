-- What is left is no deeper than what was to be dropped.
use Rattle.std.proofs.Common.{◌≤◌}
use Rattle.c_values.specs.declared.values.Value.{size-Value}
use Rattle.c_values.proofs.values.Value.+drop.Given as goal

abbrev pub invariant-loop-self : goal.invariant-loop-self
invariant-loop-self l = size-Value l.self ≤ size-Value l.fn.self
