-- What is left is no deeper than what was to be dropped.
use Rattle.std.proofs.Common.{◌≤◌}
use Rattle.triple_lang.specs.declared.deriv.Deriv.{size-Deriv}
use Rattle.triple_lang.proofs.deriv.Deriv.+drop.Given as goal

abbrev pub invariant-loop-self : goal.invariant-loop-self
invariant-loop-self l = size-Deriv l.self ≤ size-Deriv l.initial.self
