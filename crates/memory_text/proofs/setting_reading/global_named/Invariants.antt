-- None before has the name.
use Rattle.std.proofs.Common.{◌≡◌, length, map}
use Rattle.c_values.specs.CodeValue.{global_of}
use Rattle.memory_text.specs.MemoryText.{global_named}
use Rattle.memory_text.proofs.setting_reading.global_named.Given as goal

abbrev pub invariant-globals : goal.invariant-globals
invariant-globals l = global_named (map global_of l.globals) l.name ≡ global_named (map global_of l.rest) l.name

abbrev pub decreases-globals : goal.decreases-globals
decreases-globals l = length l.rest
