-- What is left, behind the parameters so far, is judged as all are.
use Rattle.std.proofs.Common.{◌≡◌, length, map}
use Rattle.c_grammar.specs.CodeTree.{param_of}
use Rattle.typing_rules.specs.Functions.{parameters}
use Rattle.typing_declarations.specs.CodeParameters.{parameter_of}
use Rattle.typing_scope.specs.CodeScope.{scope_of}
use Rattle.typing_expressions.specs.CodeBehind.{behind}
use Rattle.typing_declarations.proofs.parameters.parameters.Given as goal

abbrev pub invariant-loop-param : goal.invariant-loop-param
invariant-loop-param l =
    parameters l.has_body (map param_of l.fn.params) (scope_of l.fn.scope) ≡ behind (map parameter_of l.typed.items) (parameters l.has_body (map param_of l.rest)) (scope_of l.scope)

abbrev pub decreases-loop-param : goal.decreases-loop-param
decreases-loop-param l = length l.rest
