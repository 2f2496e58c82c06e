use Rattle.std.proofs.Common.{◌≡◌, true, is_some}
use Rattle.c_values.specs.Layout.{shape_of, size_of, is_object}
use Rattle.c_values.specs.CodeTypes.{type_of}
use Rattle.c_values.proofs.Height.{height}
use Rattle.c_memory.specs.Tags.{root_path}
use Rattle.c_memory.proofs.parts.has_part.Given as goal

abbrev pub invariant-loop-whole : goal.invariant-loop-whole
invariant-loop-whole l = record {
  object : is_object l.l (type_of l.whole) ≡ true;
  size : l.size ≡ size_of l.l (type_of l.whole);
  path : is_some (root_path (shape_of l.l (type_of l.whole)) (type_of l.t) l.offset) ≡ is_some (root_path (shape_of l.l (type_of l.fn.whole)) (type_of l.t) l.fn.offset);
}

abbrev pub decreases-loop-whole : goal.decreases-loop-whole
decreases-loop-whole l = height (shape_of l.l (type_of l.whole))
