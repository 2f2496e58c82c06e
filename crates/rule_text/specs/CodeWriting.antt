-- The code's trees as texts, by what is told of the code's rules.
use Rattle.std.specs.Prelude.{List, Bool, true, false}
use Rattle.ac_sx.specs.Tree.{Tree, Trees, no_trees, more}
use Rattle.c_values.specs.Name.{Name}
use Rattle.rule_trees.specs.declared.tree.Tree as T
use Rattle.rule_trees.specs.CodeTree as code
use Rattle.rule_text.specs.RuleText.{rule_tree, rule_trees}

abbrev pub has_trees : Trees → Bool
has_trees no_trees = false
has_trees (more t ts) = true

module _ {R : Type 0} (word : R → Name) (data' : R → Trees) where
  abbrev pub text_in : T.Tree R → Tree
  text_in t = rule_tree word data' (code.tree_of (λ r. r) t)

  abbrev pub texts_in : List (T.Tree R) → Trees
  texts_in ts = rule_trees word data' (code.trees_in (λ r. r) ts)
