-- The guards so far, and then those of the arguments that are left.
use Rattle.std.proofs.Common.{◌≡◌, ◌++◌, map, length}
use Rattle.c_lang.specs.CodeTyped.{expr_of}
use Rattle.expression_lang.specs.CodeExpression.{level_of}
use Rattle.simpl_lang.specs.CodeCommand.{condition_of}
use Rattle.generation.specs.Guards.{argument_guards}
use Rattle.simpl_gen.proofs.calls.add_argument_guards.Given as goal

abbrev pub invariant-rest : goal.invariant-rest
invariant-rest l = map condition_of l.out.items ++ argument_guards l.l (level_of l.level) (map expr_of l.rest)
    ≡ map condition_of l.initial.out.items ++ argument_guards l.l (level_of l.level) (map expr_of l.arguments)

abbrev pub decreases-rest : goal.decreases-rest
decreases-rest l = length l.rest
