-- The steps so far, and those of the rest of the path, are the path's. What is left of an `or` decides it.
use Rattle.std.proofs.Common.{◌≡◌, ◌≤◌, ◌++◌, map}
use Rattle.c_memory.specs.CodeStep.{step_of}
use Rattle.c_values.specs.Value.{truth_in}
use Rattle.expression_lang.specs.declared.expression.Exp.{size-Exp}
use Rattle.expression_lang.specs.declared.paths.Path.{size-Path}
use Rattle.expression_lang.specs.Evaluation.{value, steps}
use Rattle.expression_lang.specs.Wide.{wide, wide_in}
use Rattle.expression_lang.specs.CodeExpression.{exp_of, path_of}
use Rattle.expression_lang.specs.CodeScene.{scene_of, ReadyIn, ReadyAlong}
use Rattle.expression_lang.proofs.scene.Scene.+values.Given as goal

abbrev pub invariant-steps-steps : goal.invariant-steps-steps
invariant-steps-steps g l =
    let s = scene_of g.H.Heap.content l.self in
    record {
      so_far : map step_of l.steps.items ++ steps s.layout s.env s.state (path_of l.rest) ≡ steps s.layout s.env s.state (path_of l.fn.path);
      none : wide_in s.layout s.env s.state (path_of l.fn.path) ≡ wide_in s.layout s.env s.state (path_of l.rest);
      ready : ReadyAlong s (path_of l.rest);
      smaller : size-Path l.rest ≤ size-Path l.fn.path;
    }

abbrev pub invariant-truth-operands : goal.invariant-truth-operands
invariant-truth-operands g l =
    let s = scene_of g.H.Heap.content l.self in
    record {
      same : truth_in (value s.layout s.env s.state (exp_of l.rest)) ≡ truth_in (value s.layout s.env s.state (exp_of l.fn.e));
      none : wide s.layout s.env s.state (exp_of l.fn.e) ≡ wide s.layout s.env s.state (exp_of l.rest);
      ready : ReadyIn s (exp_of l.rest);
      smaller : size-Exp l.rest ≤ size-Exp l.fn.e;
    }
