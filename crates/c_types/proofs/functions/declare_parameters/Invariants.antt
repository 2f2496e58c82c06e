-- The parameters so far are declared.
use Rattle.std.proofs.Common.{◌≡◌, map, take}
use Rattle.typing_declarations.specs.CodeParameters.{parameter_of}
use Rattle.typing_scope.specs.CodeScope.{scope_of}
use Rattle.typing_rules.specs.Functions.{add_parameters}
use Rattle.c_types.proofs.functions.declare_parameters.Given as goal

abbrev pub invariant-loop-param : goal.invariant-loop-param
invariant-loop-param l =
    scope_of l.scope ≡ add_parameters (map parameter_of (take l.param-index l.params)) (scope_of l.initial.scope)
