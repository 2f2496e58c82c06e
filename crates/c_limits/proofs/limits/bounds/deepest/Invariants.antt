use Rattle.std.proofs.Common.{◌≡◌, ◌-◌, reverse}
use Rattle.c_limits.specs.CodeBounds as machine
use Rattle.c_limits.proofs.limits.bounds.deepest.Given as goal

abbrev pub invariant-loop : goal.invariant-loop
invariant-loop l = machine.deepest (l.count - l.counter) (reverse l.depths.items) l.depth ≡ machine.deepest l.count (reverse l.initial.depths.items) 0
