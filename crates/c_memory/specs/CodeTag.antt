-- What the code's tags stand for.
use Rattle.std.specs.Prelude.{ℕ}
use Rattle.c_values.specs.declared.types.CType as C
use Rattle.c_values.specs.CodeTypes.{type_of}
use Rattle.c_memory.specs.Memory.{Tag}

abbrev pub tag_of : (ℕ × C.CType) → Tag
tag_of t = record { address = t.0; type = type_of t.1 }
