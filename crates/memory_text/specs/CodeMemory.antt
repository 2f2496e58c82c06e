-- What the code's memories stand for.
use Rattle.std.specs.Prelude.{◌-◌, ◌^◌, min, String, map, string_bytes}
use Rattle.std.specs.declared.alloc.Global.{Global}
use Rattle.c_values.specs.declared.values.Value as V
use Rattle.c_values.specs.CodeValue.{value_of}
use Rattle.c_values.specs.CodeParts.{values_in}
use Rattle.c_memory.specs.CodeTag.{tag_of}
use Rattle.c_memory.specs.Ranges.{run_of}
use Rattle.ac_sx.specs.CodeSx.{tree_of}
use Rattle.memory_text.specs.declared.memory.MemoryText as M
use Rattle.memory_text.specs.declared.memory_reading.Parts as P
use Rattle.memory_text.specs.MemoryText.{Setting, Memory}
use Rattle.memory_text.specs.MemoryReading.{Parts}

abbrev pub setting_of : String Global × V.Value → Setting
setting_of s = record { name = string_bytes s.0; value = value_of s.1 }

abbrev pub memory_of : M.MemoryText → Memory
memory_of m = record {
  function = string_bytes m.function;
  arguments = values_in m.arguments.items;
  turns = m.turns;
  fill = m.fill;
  bytes = map run_of m.bytes.items;
  tags = map tag_of m.tags.items;
  globals = map setting_of m.globals.items;
}

-- with turns of 32 bits: all that are more are as many
abbrev pub clamped : Memory → Memory
clamped m = record m { turns = min m.turns (2 ^ 32 - 1) }

abbrev pub parts_of : P.Parts → Parts
parts_of p = record {
  version = tree_of p.version.now;
  call = tree_of p.call.now;
  turns = tree_of p.turns.now;
  fill = tree_of p.fill.now;
  bytes = tree_of p.bytes.now;
  tags = tree_of p.tags.now;
  globals = tree_of p.globals.now;
}
