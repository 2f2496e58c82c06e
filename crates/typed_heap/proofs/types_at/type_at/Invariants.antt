-- What is left of the path leads from the type so far to the same shape.
use Rattle.std.proofs.Common.{◌≡◌, true, map, drop}
use Rattle.std.specs.Option.{option_map}
use Rattle.c_values.specs.Layout.{shape_of, is_object}
use Rattle.c_values.specs.Path.{spot}
use Rattle.c_values.specs.CodeTypes.{type_of}
use Rattle.c_memory.specs.CodeStep.{step_of}
use Rattle.typed_heap.proofs.types_at.type_at.Given as goal

abbrev pub invariant-loop-step : goal.invariant-loop-step
invariant-loop-step l = record {
  object : is_object l.l (type_of l.ty) ≡ true;
  rest : option_map (λ q. q.shape) (spot (shape_of l.l (type_of l.fn.t)) (map step_of l.path))
      ≡ option_map (λ q. q.shape) (spot (shape_of l.l (type_of l.ty)) (map step_of (drop l.step-index l.path)));
}
