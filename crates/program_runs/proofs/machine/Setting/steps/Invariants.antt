-- The steps so far, and those of the rest of the path, are the path's; nothing before was wide.
use Rattle.std.proofs.Common.{◌≡◌, ◌++◌, map, Some}
use Rattle.c_values.specs.Layout.{Shape}
use Rattle.c_memory.specs.CodeStep.{step_of}
use Rattle.expression_lang.specs.Sort.{shape_along}
use Rattle.expression_lang.specs.Evaluation.{steps}
use Rattle.expression_lang.specs.Wide.{wide_in}
use Rattle.expression_lang.specs.CodeExpression.{path_of}
use Rattle.expression_lang.specs.CodeState.{env_of}
use Rattle.program_runs.specs.CodeRun.{state_in, scope_of}
use Rattle.program_runs.proofs.machine.Setting.steps.Given as goal

abbrev pub invariant-along : goal.invariant-along
invariant-along g l =
    let env = env_of l.env.items in
    let s = state_in g.H.Heap.content l.self.unit.now l.state in
    record {
      so_far : map step_of l.steps.items ++ steps l.self.unit.now.layout env s (path_of l.rest) ≡ steps l.self.unit.now.layout env s (path_of l.path);
      narrow : wide_in l.self.unit.now.layout env s (path_of l.path) ≡ wide_in l.self.unit.now.layout env s (path_of l.rest);
      leads : (r : Shape) × (q : Shape) × (shape_along (scope_of l.self.unit.now l.env.items) (path_of l.rest) r ≡ Some q);
    }
