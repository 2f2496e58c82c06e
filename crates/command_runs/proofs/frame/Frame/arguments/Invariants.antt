-- The values so far, and those of the other arguments, are the arguments'.
use Rattle.std.proofs.Common.{◌≡◌, List, ◌++◌, map, length}
use Rattle.c_values.specs.CodeValue.{value_of}
use Rattle.expression_lang.specs.Sort.{Scalar}
use Rattle.expression_lang.specs.Signature.{values_of}
use Rattle.expression_lang.specs.CodeExpression.{exp_of}
use Rattle.expression_lang.specs.CodeState.{env_of}
use Rattle.command_runs.specs.CodeRun.{state_in, HaveSortsIn}
use Rattle.command_runs.proofs.frame.Frame.arguments.Given as goal

abbrev pub invariant-arguments : goal.invariant-arguments
invariant-arguments l =
    let env = env_of l.locals.items in
    let s = state_in l.self.unit.now l.state in
    record {
      so_far : map value_of l.values.items ++ values_of l.self.unit.now.layout env s (map exp_of l.rest) ≡ values_of l.self.unit.now.layout env s (map exp_of l.exps);
      sorted : (cs : List Scalar) × HaveSortsIn l.self (map exp_of l.rest) cs;
    }

abbrev pub decreases-arguments : goal.decreases-arguments
decreases-arguments l = length l.rest
