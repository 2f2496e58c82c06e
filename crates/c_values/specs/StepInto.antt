-- One step into a shape: a member, or an element that is there.
use Rattle.std.specs.Prelude.{Option, None, if◌then◌else◌}
use Rattle.c_values.specs.Layout.{Shape}
use Rattle.c_values.specs.Path.{Step, Spot, step_in_range, step_spot}

abbrev pub step_into : Shape → Step → Option Spot
step_into s p = if step_in_range s p then step_spot s p else None
