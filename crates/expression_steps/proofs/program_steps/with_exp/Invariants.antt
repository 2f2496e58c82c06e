-- What is made so far, and what is to be made of what is left, are all.
use Rattle.std.proofs.Common.{◌≡◌, ◌++◌, map, length}
use Rattle.expression_lang.specs.CodeExpression.{exp_of}
use Rattle.expression_steps.specs.CodeProgramSteps.{with_exp}
use Rattle.expression_steps.proofs.program_steps.with_exp.Given as goal

abbrev pub invariant-passing : goal.invariant-passing
invariant-passing l =
    map exp_of l.all.items ++ with_exp l.left (exp_of l.new.value) (map exp_of l.rest)
    ≡ with_exp l.position (exp_of l.new.value) (map exp_of l.exps)

abbrev pub decreases-passing : goal.decreases-passing
decreases-passing l = length l.rest
