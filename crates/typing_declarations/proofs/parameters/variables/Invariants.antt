-- The variables so far are those of the parameters so far.
use Rattle.std.proofs.Common.{◌≡◌, map, take}
use Rattle.typing_declarations.specs.CodeParameters.{parameter_of}
use Rattle.typing_rules.specs.Functions.{variables}
use Rattle.c_lang.specs.CodeTyped.{variable_of}
use Rattle.typing_declarations.proofs.parameters.variables.Given as goal

abbrev pub invariant-loop-param : goal.invariant-loop-param
invariant-loop-param l = map variable_of l.variables.items ≡ variables (map parameter_of (take l.param-index l.params))
