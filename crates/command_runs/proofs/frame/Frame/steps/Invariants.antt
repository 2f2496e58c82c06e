-- The steps so far, and those of the rest of the path, are the path's.
use Rattle.std.proofs.Common.{◌≡◌, ◌++◌, map}
use Rattle.c_values.specs.Layout.{Shape}
use Rattle.c_memory.specs.CodeStep.{step_of}
use Rattle.expression_lang.specs.Evaluation.{steps}
use Rattle.expression_lang.specs.CodeExpression.{path_of}
use Rattle.expression_lang.specs.CodeState.{env_of}
use Rattle.command_runs.specs.CodeRun.{state_in, LeadsIn}
use Rattle.command_runs.proofs.frame.Frame.steps.Given as goal

abbrev pub invariant-along : goal.invariant-along
invariant-along l =
    let env = env_of l.locals.items in
    let s = state_in l.self.unit.now l.state in
    record {
      so_far : map step_of l.steps.items ++ steps l.self.unit.now.layout env s (path_of l.rest) ≡ steps l.self.unit.now.layout env s (path_of l.fn.path);
      leads : (r : Shape) × (q : Shape) × LeadsIn l.self (path_of l.rest) r q;
    }
