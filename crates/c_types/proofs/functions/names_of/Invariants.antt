-- The names so far are those of the parameters so far.
use Rattle.std.proofs.Common.{◌≡◌, map, string_bytes, take}
use Rattle.typing_declarations.specs.CodeParameters.{parameter_of}
use Rattle.typing_rules.specs.Functions.{variables}
use Rattle.c_lang.specs.Typed.{variable_names}
use Rattle.c_types.proofs.functions.names_of.Given as goal

abbrev pub invariant-loop-param : goal.invariant-loop-param
invariant-loop-param l =
    map string_bytes l.names.items ≡ variable_names (variables (map parameter_of (take l.param-index l.params)))
