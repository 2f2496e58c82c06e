-- What is left is no deeper than what was to be dropped.
use Rattle.std.proofs.Common.{◌≤◌}
use Rattle.triple_lang.specs.declared.entail.Entail.{size-Entail}
use Rattle.triple_lang.proofs.entail.Entail.+drop.Given as goal

abbrev pub invariant-loop-self : goal.invariant-loop-self
invariant-loop-self l = size-Entail l.self ≤ size-Entail l.initial.self
