-- What is left of the way, and of the value, makes the same with what was put around.
use Rattle.std.proofs.Common.{◌≡◌, ◌≤◌, IsSome}
use Rattle.c_values.specs.Value.{Value}
use Rattle.c_values.specs.CodeValue.{value_of}
use Rattle.typed_heap.specs.CodeWays.{steps_of, many_steps, IsWay}
use Rattle.typed_heap.specs.CodeTurned.{turned_back, replaced}
use Rattle.typed_heap.proofs.selecting.take_out.Given as goal

abbrev pub invariant-inwards : goal.invariant-inwards
invariant-inwards l = record {
  object : IsWay l.l l.way;
  some : IsSome (steps_of l.l l.way);
  shorter : many_steps (steps_of l.l l.way) ≤ many_steps (steps_of l.l l.fn.way);
  whole :
      (w : Value) →
      turned_back (value_of l.outer) (replaced (value_of l.whole) (steps_of l.l l.way) w)
      ≡ turned_back (value_of l.fn.outer) (replaced (value_of l.fn.whole) (steps_of l.l l.fn.way) w);
}

abbrev pub decreases-inwards : goal.decreases-inwards
decreases-inwards l = many_steps (steps_of l.l l.way)
