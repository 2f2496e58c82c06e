-- The types so far are those of the parameters so far.
use Rattle.std.proofs.Common.{◌≡◌, map, take}
use Rattle.c_values.specs.CodeTypes.{type_of}
use Rattle.typing_declarations.specs.CodeParameters.{parameter_of}
use Rattle.typing_rules.specs.Functions.{types}
use Rattle.typing_declarations.proofs.signatures.types_of.Given as goal

abbrev pub invariant-loop-param : goal.invariant-loop-param
invariant-loop-param l = map type_of l.types.items ≡ types (map parameter_of (take l.param-index l.params))
