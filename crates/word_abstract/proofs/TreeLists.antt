-- Trees in a row, and one more.
use Rattle.std.proofs.Common.{◌≡◌, List, [], ◌∷◌, ◌++◌, refl, ap}
use Rattle.rule_trees.specs.declared.tree.Tree as T
use Rattle.rule_trees.specs.RuleTree.{Trees, no_trees, tree}
use Rattle.rule_trees.specs.CodeTree.{trees_in}
use Rattle.rule_word.specs.declared.rule.Rule as R
use Rattle.rule_word.specs.Rule.{Rule}
use Rattle.rule_word.specs.CodeRule.{rule_of, tree_of}
use Rattle.word_abstract.specs.CodeTrees.{with_trees}

pub with_trees_push : (xs : List (T.Tree R.Rule)) (x : T.Tree R.Rule) (more : Trees Rule) → with_trees (xs ++ x ∷ []) more ≡ with_trees xs (tree (tree_of x) more)
with_trees_push [] x more = refl
with_trees_push (y ∷ ys) x more = ap (λ ts. tree (tree_of y) ts) (with_trees_push ys x more)

pub trees_alone : (xs : List (T.Tree R.Rule)) → trees_in rule_of xs ≡ with_trees xs no_trees
trees_alone [] = refl
trees_alone (x ∷ xs) = ap (λ ts. tree (tree_of x) ts) (trees_alone xs)
