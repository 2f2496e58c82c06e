-- Ways from an object to a place in it: to a root, and along a path from there.
use Rattle.std.specs.Prelude.{◌≡◌, ℕ, true, List, ◌++◌, length, map, Option, None, Some}
use Rattle.std.specs.Option.{option_map}
use Rattle.c_values.specs.Layout.{Layout, shape_of, size_of, is_object}
use Rattle.c_values.specs.Path.{Step}
use Rattle.c_values.specs.CodeTypes.{type_of}
use Rattle.c_memory.specs.CodeStep.{step_of}
use Rattle.c_memory.specs.Tags.{root_path}
use Rattle.typed_heap.specs.declared.ways.Way as W

-- the steps of a way, where its root is in the object
abbrev pub steps_of : Layout → W.Way → Option (List Step)
steps_of l (W.TheVariants.ToRoot whole size root offset path) =
    option_map (λ steps. steps ++ map step_of path.now) (root_path (shape_of l (type_of whole.now)) (type_of root.now) offset)
steps_of l (W.TheVariants.Along path) = Some (map step_of path.now)

-- it begins at an object of the size
abbrev pub IsWay : Layout → W.Way → Type 0
IsWay l (W.TheVariants.ToRoot whole size root offset path) = (is_object l (type_of whole.now) ≡ true) × (size ≡ size_of l (type_of whole.now))
IsWay l (W.TheVariants.Along path) = Unit {0}

abbrev pub many_steps : Option (List Step) → ℕ
many_steps None = 0
many_steps (Some steps) = length steps
