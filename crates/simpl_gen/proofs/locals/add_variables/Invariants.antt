-- What was added, and then the variables that are left, are all of them.
use Rattle.std.proofs.Common.{◌≡◌, ◌++◌, map, length}
use Rattle.c_values.specs.CodeTypes.{target_of}
use Rattle.c_lang.specs.CodeTyped.{variable_of}
use Rattle.expression_lang.specs.CodeExpression.{level_of}
use Rattle.expression_lang.specs.CodeSignature.{binder_of}
use Rattle.c_meaning.specs.Kinds.{variables}
use Rattle.simpl_gen.proofs.locals.add_variables.Given as goal

abbrev pub invariant-rest : goal.invariant-rest
invariant-rest l =
    map binder_of l.out.items ++ variables (target_of l.target) (level_of l.level) (map variable_of l.rest)
    ≡ map binder_of l.initial.out.items ++ variables (target_of l.target) (level_of l.level) (map variable_of l.variables)

abbrev pub decreases-rest : goal.decreases-rest
decreases-rest l = length l.rest
