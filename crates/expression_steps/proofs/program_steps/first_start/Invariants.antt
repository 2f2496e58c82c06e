-- The first of what is left is the first of all, counted from what was passed.
use Rattle.std.proofs.Common.{◌≡◌, ◌-◌, ◌≤◌, map, length}
use Rattle.monad_lang.specs.CodeProgram.{start_of}
use Rattle.expression_steps.specs.Shortened.{shortened}
use Rattle.expression_steps.specs.CodePoint.{known_in, scope_in}
use Rattle.expression_steps.specs.CodeProgramSteps.{later, first_start}
use Rattle.expression_steps.proofs.program_steps.first_start.Given as goal

abbrev pub invariant-along : goal.invariant-along
invariant-along l = record {
  same :
      later (length l.starts - length l.rest) (first_start (shortened (scope_in l.context)) (known_in l.facts) (map start_of l.rest))
      ≡ first_start (shortened (scope_in l.context)) (known_in l.facts) (map start_of l.starts);
  within : length l.rest ≤ length l.starts;
}

abbrev pub decreases-along : goal.decreases-along
decreases-along l = length l.rest
