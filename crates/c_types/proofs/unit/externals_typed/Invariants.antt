-- What is left, behind the functions so far, is judged as all is.
use Rattle.std.proofs.Common.{◌≡◌, length, map}
use Rattle.c_grammar.specs.CodeTree.{decl_of}
use Rattle.typing_rules.specs.Unit.{externals}
use Rattle.c_lang.specs.CodeTyped.{function_of}
use Rattle.typing_scope.specs.CodeScope.{scope_of}
use Rattle.typing_expressions.specs.CodeBehind.{behind}
use Rattle.c_types.proofs.unit.externals_typed.Given as goal

abbrev pub invariant-loop-external : goal.invariant-loop-external
invariant-loop-external l =
    externals (map decl_of l.fn.externals) (scope_of l.fn.scope) ≡ behind (map function_of l.functions.items) (externals (map decl_of l.rest)) (scope_of l.scope)

abbrev pub decreases-loop-external : goal.decreases-loop-external
decreases-loop-external l = length l.rest
