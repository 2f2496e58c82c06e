-- The code's trees in a row, with more trees behind them.
use Rattle.std.specs.Prelude.{List, [], ◌∷◌}
use Rattle.rule_trees.specs.declared.tree.Tree as T
use Rattle.rule_trees.specs.RuleTree.{Trees, tree}
use Rattle.rule_word.specs.declared.rule.Rule as R
use Rattle.rule_word.specs.Rule.{Rule}
use Rattle.rule_word.specs.CodeRule.{tree_of}

abbrev pub with_trees : List (T.Tree R.Rule) → Trees Rule → Trees Rule
with_trees [] more = more
with_trees (t ∷ ts) more = tree (tree_of t) (with_trees ts more)
