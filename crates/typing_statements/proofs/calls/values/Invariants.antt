-- The values so far, with those of the expressions that are left behind them, are all.
use Rattle.std.proofs.Common.{◌≡◌, map, drop}
use Rattle.c_grammar.specs.CodeTree.{exp_of}
use Rattle.typing_rules.specs.Calls.{values}
use Rattle.typing_scope.specs.CodeScope.{scope_of}
use Rattle.typing_expressions.specs.CodeBehind.{behind}
use Rattle.c_lang.specs.CodeTyped.{expr_of}
use Rattle.typing_statements.proofs.calls.values.Given as goal

abbrev pub invariant-loop-e : goal.invariant-loop-e
invariant-loop-e l =
    values (map exp_of l.es) (scope_of l.initial.scope)
    ≡ behind (map expr_of l.typed.items) (values (map exp_of (drop l.e-index l.es))) (scope_of l.scope)
