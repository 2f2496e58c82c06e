-- What was generated, and then the functions that are left, are all of them.
use Rattle.std.proofs.Common.{◌≡◌, ◌++◌, map, length}
use Rattle.c_lang.specs.CodeTyped.{function_of}
use Rattle.expression_lang.specs.CodeExpression.{level_of}
use Rattle.simpl_lang.specs.CodeCommand.{simpl_fn_of}
use Rattle.generation.specs.Generate as rules
use Rattle.simpl_gen.specs.CodeAtLevels.{at_levels}
use Rattle.simpl_gen.proofs.functions.functions.Given as goal

abbrev pub invariant-functions : goal.invariant-functions
invariant-functions l =
    map simpl_fn_of l.generated.items ++ at_levels (rules.function_of l.l) (map function_of l.functions) (map level_of l.levels)
    ≡ at_levels (rules.function_of l.l) (map function_of l.initial.functions) (map level_of l.initial.levels)

abbrev pub decreases-functions : goal.decreases-functions
decreases-functions l = length l.functions
