-- The parts of the code's trees as lists.
use Rattle.std.proofs.Common.{◌≡◌, List, refl, ap, subst, ◌∙◌}
use Rattle.rule_trees.specs.declared.tree.Tree as T
use Rattle.rule_trees.specs.declared.tree.Tree.{Row_of-Tree, end_of-Tree, more_of-Tree, items-the_row-Tree, items_hidden-the_row-Tree-0, out-Tree, roll-Tree, roll-out-Tree, Tree-F}
use Rattle.rule_trees.specs.RuleTree.{node, tree}
use Rattle.rule_trees.specs.CodeTree.{tree_of, trees_of, trees_in}

row_trees : {R Rule : Type 0} {m : _} (f : R → Rule) (k : Row_of-Tree R m) → trees_of f k ≡ trees_in f (items-the_row-Tree R m k)
row_trees f end_of-Tree = refl
row_trees f (more_of-Tree t ts) = ap (λ us. tree (tree_of f t) us) (row_trees f ts)

rolled_parts : {R Rule : Type 0} (f : R → Rule) (w : Tree-F R (T.Tree R)) → tree_of f (roll-Tree R w) ≡ node (f w.rule) (trees_in f w.parts.items)
unfolding roll-Tree denote.Hole.Carrier.roll
rolled_parts {R} f w = ap (λ us. node (f w.rule) us) (row_trees f (T.TheBlock.hidden-the_row-Tree-0 R w.parts) ∙ ap (λ ps. trees_in f ps) (items_hidden-the_row-Tree-0 R w.parts))

-- a tree that is made from a rule and a list of parts
pub made : {R Rule : Type 0} (f : R → Rule) (w : Tree-F R (T.Tree R)) (ts : List (T.Tree R)) → w.parts.items ≡ ts → tree_of f (roll-Tree R w) ≡ node (f w.rule) (trees_in f ts)
made f w ts e = rolled_parts f w ∙ ap (λ us. node (f w.rule) (trees_in f us)) e

pub tree_parts : {R Rule : Type 0} (f : R → Rule) (t : T.Tree R) → tree_of f t ≡ node (f (out-Tree R t).rule) (trees_in f (out-Tree R t).parts.items)
tree_parts {R} f t = subst (λ u. tree_of f u ≡ node (f (out-Tree R t).rule) (trees_in f (out-Tree R t).parts.items)) (roll-out-Tree R t) (rolled_parts f (out-Tree R t))
