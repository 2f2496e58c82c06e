-- What is made so far, and what is left, are all.
use Rattle.std.proofs.Common.{◌≡◌, ◌++◌, length, map}
use Rattle.expression_lang.specs.CodeExpression.{kind_of}
use Rattle.monad_lang.specs.CodeProgram.{start_of}
use Rattle.rule_trees.specs.RuleTree.{Trees}
use Rattle.rule_word.specs.Rule.{Rule}
use Rattle.rule_word.specs.Table.{views_for}
use Rattle.rule_parts.specs.Starts.{start_exps}
use Rattle.rule_word.specs.ProgramsAbstracted.{rights, trees_before, restarted}
use Rattle.word_abstract.specs.CodeTrees.{with_trees}
use Rattle.word_abstract.specs.CodeScenes.{all_there}
use Rattle.word_abstract.proofs.lists.starts_at.Given as goal

abbrev pub invariant-along : goal.invariant-along
invariant-along l = record {
  starts : map start_of l.made.items ++ restarted (map start_of l.rest) (rights (all_there l.at (start_exps (map start_of l.rest)) (views_for (map kind_of l.left))))
      ≡ restarted (map start_of l.starts) (rights (all_there l.at (start_exps (map start_of l.starts)) (views_for (map kind_of l.kinds))));
  trees : (more : Trees Rule) → with_trees l.trees.items (trees_before (all_there l.at (start_exps (map start_of l.rest)) (views_for (map kind_of l.left))) more)
      ≡ trees_before (all_there l.at (start_exps (map start_of l.starts)) (views_for (map kind_of l.kinds))) more;
}

abbrev pub decreases-along : goal.decreases-along
decreases-along l = length l.rest
