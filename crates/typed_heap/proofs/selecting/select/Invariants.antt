-- What is left of the way leads from the part to the same value.
use Rattle.std.proofs.Common.{◌≡◌}
use Rattle.std.specs.Prelude.{IsSomeAnd}
use Rattle.c_values.specs.CodeValue.{value_of}
use Rattle.c_values.specs.CodeFollow.{CanFollow}
use Rattle.typed_heap.specs.CodeWays.{steps_of, many_steps, IsWay}
use Rattle.typed_heap.proofs.Steps.{sel_found}
use Rattle.typed_heap.proofs.selecting.select.Given as goal

abbrev pub invariant-steps : goal.invariant-steps
invariant-steps l = record {
  object : IsWay l.l l.way;
  follows : IsSomeAnd (steps_of l.l l.way) (CanFollow (value_of l.part));
  rest : sel_found (value_of l.part) (steps_of l.l l.way) ≡ sel_found (value_of l.fn.value) (steps_of l.l l.fn.way);
}

abbrev pub decreases-steps : goal.decreases-steps
decreases-steps l = many_steps (steps_of l.l l.way)
