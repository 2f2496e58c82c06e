-- The numbers of a tree's nodes are those of the tree over the code's rules.
use Rattle.std.proofs.Common.{◌≡◌, ◌≤◌, ℕ, zero, suc, ◌+◌, List, [], ◌∷◌, Option, Some, None, Vec, Global, refl, ap, sym, subst, ◌∙◌, reverse}
use Rattle.std.specs.Prelude.{IfSome, IfNone}
use Rattle.std.specs.Option.{option_map}
use Rattle.rule_trees.specs.declared.tree.Tree as T
use Rattle.rule_trees.specs.declared.tree.Tree.{Row_of-Tree, end_of-Tree, more_of-Tree}
use Rattle.rule_trees.specs.CodeTree.{tree_of, trees_of}
use Rattle.rule_trees.specs.CodeNodes.{nodes, nodes_in}
use Rattle.refused_parts.specs.Ways.{number_at, number_in}
use Rattle.refused_parts.specs.CodeWays.{shape_of}

module _ {R Rule : Type 0} (f : R → Rule) where
  mutual
    pub same_nodes : (t : T.Tree R) → nodes (shape_of t) ≡ nodes (tree_of f t)
    same_nodes (T.Tree' r m ts) = ap suc (same_nodes_in ts)

    same_nodes_in : {m : _} (ts : Row_of-Tree R m) → nodes_in (trees_of (λ r. r) ts) ≡ nodes_in (trees_of f ts)
    same_nodes_in end_of-Tree = refl
    same_nodes_in (more_of-Tree t ts) = ap (λ n. n + nodes_in (trees_of (λ r. r) ts)) (same_nodes t) ∙ ap (λ n. nodes (tree_of f t) + n) (same_nodes_in ts)

  mutual
    pub same_number : (t : T.Tree R) (way : List ℕ) → number_at (shape_of t) way ≡ number_at (tree_of f t) way
    same_number (T.Tree' r m ts) [] = refl
    same_number (T.Tree' r m ts) (i ∷ way) = ap (option_map suc) (same_number_in ts i way)

    same_number_in : {m : _} (ts : Row_of-Tree R m) (i : ℕ) (way : List ℕ) → number_in (trees_of (λ r. r) ts) i way ≡ number_in (trees_of f ts) i way
    same_number_in end_of-Tree i way = refl
    same_number_in (more_of-Tree t ts) zero way = same_number t way
    same_number_in (more_of-Tree t ts) (suc i) way =
        ap (option_map (λ n. nodes (shape_of t) + n)) (same_number_in ts i way)
        ∙ ap (λ k. option_map (λ n. k + n) (number_in (trees_of f ts) i way)) (same_nodes t)

  -- what is found on the way to a number, and that there is no such node
  pub way_found : (t : T.Tree R) (n : ℕ) (o : Option (Vec ℕ Global)) (way : Vec ℕ Global) → o ≡ Some way → IfSome o (λ w. number_at (shape_of t) (reverse w.items) ≡ Some n) → number_at (tree_of f t) (reverse way.items) ≡ Some n
  way_found t n o way e h = sym (same_number t (reverse way.items)) ∙ subst (λ x. IfSome x (λ w. number_at (shape_of t) (reverse w.items) ≡ Some n)) e h

  pub none_found : (t : T.Tree R) (n : ℕ) (o : Option (Vec ℕ Global)) → o ≡ None → IfNone o (nodes (shape_of t) ≤ n) → nodes (tree_of f t) ≤ n
  none_found t n o e h = subst (λ k. k ≤ n) (same_nodes t) (subst (λ x. IfNone x (nodes (shape_of t) ≤ n)) e h)
