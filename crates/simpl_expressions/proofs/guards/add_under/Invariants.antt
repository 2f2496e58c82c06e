-- The conditions so far stand under the premise.
use Rattle.std.proofs.Common.{◌≡◌, ◌++◌, map}
use Rattle.c_lang.specs.CodeTyped.{expr_of}
use Rattle.simpl_lang.specs.CodeCommand.{condition_of}
use Rattle.generation.specs.Guards.{under}
use Rattle.simpl_expressions.specs.CodeTests.{where_is}
use Rattle.simpl_expressions.proofs.guards.add_under.Given as goal

abbrev pub invariant-loop-guard : goal.invariant-loop-guard
invariant-loop-guard l =
    map condition_of l.out.items ≡ map condition_of l.initial.out.items
    ++ under (where_is l.l (expr_of l.condition) l.holds) (map condition_of l.yielded)
