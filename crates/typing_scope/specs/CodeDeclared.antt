-- What the code's declarators stand for.
use Rattle.std.specs.Prelude.{string_bytes}
use Rattle.c_values.specs.CodeTypes.{type_of}
use Rattle.typing_scope.specs.declared.declarators.Declared as D
use Rattle.typing_rules.specs.Declarations.{Declared}

abbrev pub declared_of : D.Declared → Declared
declared_of d = record { at = d.at; name = string_bytes d.name; type = type_of d.ty }
