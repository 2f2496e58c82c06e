-- What generation makes of a unit is well-formed, at whatever levels.
use Rattle.c_values.specs.Name.{Name}
use Rattle.expression_lang.specs.Sort.{Level}
use Rattle.simpl_lang.specs.Sorted.{IsWellFormed}
use Rattle.c_lang.specs.Typed.{TypedUnit}
use Rattle.generation.specs.Generate.{generated}

abbrev pub GeneratesWellFormed : TypedUnit → Type 0
GeneratesWellFormed u = (levels : Name → Level) → IsWellFormed (generated u levels)
