use Rattle.std.proofs.Common.{◌≡◌, ◌<◌, true, map, drop}
use Rattle.c_values.specs.Layout.{shape_of, size_of, is_object, space}
use Rattle.c_values.specs.Path.{spot}
use Rattle.c_values.specs.CodeTypes.{type_of}
use Rattle.c_memory.specs.CodeStep.{step_of}
use Rattle.c_memory.specs.CodePlace.{place_from}
use Rattle.c_memory.proofs.paths.place_at.Given as goal

abbrev pub invariant-loop-step : goal.invariant-loop-step
invariant-loop-step l = record {
  object : is_object l.l (type_of l.part.ty.now) ≡ true;
  address : l.part.address < space l.l;
  size : l.part.size ≡ size_of l.l (type_of l.part.ty.now);
  rest : place_from (space l.l) l.fn.address (spot (shape_of l.l (type_of l.fn.t)) (map step_of l.path))
      ≡ place_from (space l.l) l.part.address (spot (shape_of l.l (type_of l.part.ty.now)) (map step_of (drop l.step-index l.path)));
}
