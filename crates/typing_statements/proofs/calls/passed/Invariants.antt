-- The arguments so far, with those that are left behind them, are all.
use Rattle.std.proofs.Common.{◌≡◌, ◌++◌, length, map, drop}
use Rattle.c_values.specs.CodeTypes.{type_of}
use Rattle.typing_rules.specs.Calls.{passed}
use Rattle.typing_rules.specs.Checked.{Ruled, ◌>=>◌}
use Rattle.c_lang.specs.CodeTyped.{expr_of}
use Rattle.typing_statements.proofs.calls.passed.Given as goal

abbrev pub invariant-loop-e : goal.invariant-loop-e
invariant-loop-e l =
    passed l.layout (map type_of l.params) (map expr_of l.fn.arguments.items)
    ≡ (passed l.layout (map type_of l.rest) (map expr_of (drop (length l.yielded) l.fn.arguments.items))
    >=> λ es. Ruled (map expr_of l.passed.items ++ es))
