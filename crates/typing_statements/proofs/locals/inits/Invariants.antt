-- The statements so far, with those of the locals that are left behind them, are all.
use Rattle.std.proofs.Common.{◌≡◌, map, drop}
use Rattle.c_grammar.specs.CodeTree.{init_of}
use Rattle.c_values.specs.CodeTypes.{type_of}
use Rattle.typing_rules.specs.Locals.{inits}
use Rattle.typing_scope.specs.CodeScope.{scope_of}
use Rattle.typing_expressions.specs.CodeBehind.{behind}
use Rattle.c_lang.specs.CodeTyped.{statement_of}
use Rattle.typing_statements.proofs.locals.inits.Given as goal

abbrev pub invariant-loop-init : goal.invariant-loop-init
invariant-loop-init l =
    behind (map statement_of l.initial.statements.items) (inits (type_of l.ty) (map init_of l.inits)) (scope_of l.initial.scope)
    ≡ behind (map statement_of l.statements.items) (inits (type_of l.ty) (map init_of (drop l.init-index l.inits))) (scope_of l.scope)
