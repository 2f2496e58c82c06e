-- The text of the code's tree is that of the tree that it stands for, where the rules' words and data are the same.
use Rattle.std.proofs.Common.{◌≡◌, refl, ap, ap₂}
use Rattle.ac_sx.specs.Tree.{Trees, more}
use Rattle.c_values.specs.Name.{Name}
use Rattle.expression_text.specs.Lists.{joined}
use Rattle.rule_trees.specs.declared.tree.Tree as T
use Rattle.rule_trees.specs.declared.tree.Tree.{Row_of-Tree, end_of-Tree, more_of-Tree}
use Rattle.rule_trees.specs.CodeTree.{tree_of, trees_of}
use Rattle.rule_text.specs.RuleText.{word_with, rule_tree, rule_trees}

module _ {R Rule : Type 0} (f : R → Rule) (word : Rule → Name) (data' : Rule → Trees) where
  mutual
    pub mapped : (t : T.Tree R) → rule_tree (λ r. word (f r)) (λ r. data' (f r)) (tree_of (λ r. r) t) ≡ rule_tree word data' (tree_of f t)
    mapped (T.Tree' r m ts) = ap (λ us. word_with (word (f r)) (joined (data' (f r)) us)) (all_mapped ts)

    all_mapped : {m : _} (ts : Row_of-Tree R m) → rule_trees (λ r. word (f r)) (λ r. data' (f r)) (trees_of (λ r. r) ts) ≡ rule_trees word data' (trees_of f ts)
    all_mapped end_of-Tree = refl
    all_mapped (more_of-Tree t ts) = ap₂ more (mapped t) (all_mapped ts)
