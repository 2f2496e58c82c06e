-- The values so far, and then those of the arguments that are left.
use Rattle.std.proofs.Common.{◌≡◌, ◌++◌, map, length}
use Rattle.c_lang.specs.CodeTyped.{expr_of}
use Rattle.expression_lang.specs.CodeExpression.{exp_of}
use Rattle.generation.specs.Guards.{exps}
use Rattle.simpl_gen.proofs.calls.values.Given as goal

abbrev pub invariant-rest : goal.invariant-rest
invariant-rest l = map exp_of l.values.items ++ exps l.l (map expr_of l.rest) ≡ exps l.l (map expr_of l.arguments)

abbrev pub decreases-rest : goal.decreases-rest
decreases-rest l = length l.rest
