-- The values so far, and those to come, are the whole.
use Rattle.std.proofs.Common.{◌≡◌, length, map}
use Rattle.ac_sx.specs.CodeSx.{trees_in}
use Rattle.c_values.specs.CodeValue.{global_of}
use Rattle.memory_text.specs.MemoryReading.{chained_at, setting_at}
use Rattle.memory_text.specs.CodeMemory.{setting_of}
use Rattle.memory_text.proofs.Chained.{so_far}
use Rattle.memory_text.proofs.setting_reading.each_setting_at.Given as goal

abbrev pub invariant-settings : goal.invariant-settings
invariant-settings l =
    so_far setting_of (setting_at l.layout) l.settings.items (map global_of l.left) l.here (trees_in l.rest)
    ≡ chained_at (setting_at l.layout) (map global_of l.fn.globals) l.fn.at (trees_in l.fn.parts)

abbrev pub decreases-settings : goal.decreases-settings
decreases-settings l = length l.rest
