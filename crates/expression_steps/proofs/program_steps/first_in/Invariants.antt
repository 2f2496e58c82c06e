-- The first of what is left is the first of all, counted from what was passed.
use Rattle.std.proofs.Common.{◌≡◌, ◌-◌, ◌≤◌, map, length}
use Rattle.expression_lang.specs.CodeExpression.{exp_of}
use Rattle.expression_steps.specs.Shortened.{shortened}
use Rattle.expression_steps.specs.CodePoint.{known_in, scope_in}
use Rattle.expression_steps.specs.CodeProgramSteps.{later, first_in}
use Rattle.expression_steps.proofs.program_steps.first_in.Given as goal

abbrev pub invariant-along : goal.invariant-along
invariant-along l = record {
  same :
      later (length l.exps - length l.rest) (first_in (shortened (scope_in l.context)) (known_in l.facts) (map exp_of l.rest))
      ≡ first_in (shortened (scope_in l.context)) (known_in l.facts) (map exp_of l.exps);
  within : length l.rest ≤ length l.exps;
}

abbrev pub decreases-along : goal.decreases-along
decreases-along l = length l.rest
