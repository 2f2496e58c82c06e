-- The steps put aside, before what is left, are the whole.
use Rattle.std.proofs.Common.{◌≡◌, ◌≤◌}
use Rattle.expression_lang.specs.declared.paths.Path.{size-Path}
use Rattle.expression_lang.specs.CodeExpression.{path_of}
use Rattle.expression_lang.specs.CodeShapeView.{with_steps}
use Rattle.rule_trees.specs.RuleTree.{Trees}
use Rattle.rule_word.specs.Rule.{Rule}
use Rattle.word_abstract.specs.CodeTrees.{with_trees}
use Rattle.word_abstract.specs.CodePoints.{path_at, trees_at}
use Rattle.word_abstract.proofs.exps.+standing.Given as goal

abbrev pub invariant-indices-along : goal.invariant-indices-along
invariant-indices-along l = record {
  same : with_steps l.steps.items (path_at l.at (path_of l.rest)) ≡ path_at l.at (path_of l.path);
  trees : (more : Trees Rule) → with_trees l.trees.items (trees_at l.at (path_of l.rest) more) ≡ trees_at l.at (path_of l.path) more;
  smaller : size-Path l.rest ≤ size-Path l.path;
}

abbrev pub decreases-indices-along : goal.decreases-indices-along
decreases-indices-along l = size-Path l.rest
