-- The fronts put aside, around what is left, are the whole.
use Rattle.std.proofs.Common.{◌≡◌, ◌≤◌}
use Rattle.expression_lang.specs.declared.expression.Exp.{size-Exp}
use Rattle.expression_lang.specs.declared.paths.Path.{size-Path}
use Rattle.expression_lang.specs.CodeExpression.{exp_of, path_of}
use Rattle.expression_lang.specs.CodeShapeView.{with_steps}
use Rattle.rule_trees.specs.RuleTree.{Trees}
use Rattle.rule_heap.specs.Rule.{Rule}
use Rattle.rule_heap.specs.ExpLifted.{path_lifted, path_trees}
use Rattle.heap_lift.specs.CodeTrees.{with_trees}
use Rattle.heap_lift.specs.CodeExps.{with_fronts}
use Rattle.heap_lift.specs.Lifted.{lifted_exp}
use Rattle.heap_lift.proofs.exps.+lifted.Given as goal

abbrev pub invariant-lifted_exp-along : goal.invariant-lifted_exp-along
invariant-lifted_exp-along l = record {
  same : with_fronts l.fronts.items (lifted_exp (exp_of l.rest)) ≡ lifted_exp (exp_of l.e);
  smaller : size-Exp l.rest ≤ size-Exp l.e;
}

abbrev pub decreases-lifted_exp-along : goal.decreases-lifted_exp-along
decreases-lifted_exp-along l = size-Exp l.rest

abbrev pub invariant-lifted_path-along : goal.invariant-lifted_path-along
invariant-lifted_path-along l = record {
  same : with_steps l.steps.items (path_lifted (path_of l.rest)) ≡ path_lifted (path_of l.path);
  trees : (more : Trees Rule) → with_trees l.trees.items (path_trees (path_of l.rest) more) ≡ path_trees (path_of l.path) more;
  smaller : size-Path l.rest ≤ size-Path l.path;
}

abbrev pub decreases-lifted_path-along : goal.decreases-lifted_path-along
decreases-lifted_path-along l = size-Path l.rest
