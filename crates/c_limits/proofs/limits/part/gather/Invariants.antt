use Rattle.std.proofs.Common.{◌≡◌, ◌-◌, map, reverse}
use Rattle.c_limits.specs.CodeMeasure as machine
use Rattle.c_limits.proofs.limits.part.gather.Given as goal

abbrev pub invariant-loop : goal.invariant-loop
invariant-loop l =
    machine.gathered machine.cut (l.count - l.counter) (reverse (map machine.part_of l.parts.items)) (machine.part_of l.sum) ≡ machine.gathered machine.cut l.count (reverse (map machine.part_of l.initial.parts.items)) machine.empty
