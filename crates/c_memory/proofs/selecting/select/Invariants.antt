-- The rest of the path leads on from the part that was reached.
use Rattle.std.proofs.Common.{◌≡◌, map, drop}
use Rattle.c_values.specs.Path.{sel}
use Rattle.c_values.specs.CodeValue.{value_of}
use Rattle.c_memory.specs.CodeStep.{step_of}
use Rattle.c_values.specs.CodeFollow.{CanFollow}
use Rattle.c_memory.proofs.selecting.select.Given as goal

abbrev pub invariant-loop-step : goal.invariant-loop-step
invariant-loop-step l = record {
  follows : CanFollow (value_of l.part) (map step_of (drop l.step-index l.path));
  rest : sel (value_of l.part) (map step_of (drop l.step-index l.path)) ≡ sel (value_of l.fn.value) (map step_of l.path);
}
