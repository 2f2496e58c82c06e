-- The values so far, and those to come, are the whole.
use Rattle.std.proofs.Common.{◌≡◌, ◌++◌, length, map}
use Rattle.c_values.specs.CodeValue.{value_of, global_of}
use Rattle.memory_text.specs.CodeMemory.{setting_of}
use Rattle.run_start.specs.Start.{values_set}
use Rattle.run_start.proofs.globals.values_set.Given as goal

abbrev pub invariant-globals : goal.invariant-globals
invariant-globals l =
    map value_of l.values.items ++ values_set l.layout (map global_of l.rest) (map setting_of l.left)
    ≡ values_set l.layout (map global_of l.fn.globals) (map setting_of l.fn.settings)

abbrev pub decreases-globals : goal.decreases-globals
decreases-globals l = length l.rest
