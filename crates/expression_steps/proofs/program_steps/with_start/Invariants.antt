-- What is made so far, and what is to be made of what is left, are all.
use Rattle.std.proofs.Common.{◌≡◌, ◌++◌, map, length}
use Rattle.expression_lang.specs.CodeExpression.{exp_of}
use Rattle.monad_lang.specs.CodeProgram.{start_of}
use Rattle.expression_steps.specs.CodeProgramSteps.{with_start}
use Rattle.expression_steps.proofs.program_steps.with_start.Given as goal

abbrev pub invariant-passing : goal.invariant-passing
invariant-passing l =
    map start_of l.all.items ++ with_start l.left (exp_of l.new.value) (map start_of l.rest)
    ≡ with_start l.position (exp_of l.new.value) (map start_of l.starts)

abbrev pub decreases-passing : goal.decreases-passing
decreases-passing l = length l.rest
