-- One step down a tree of the code and down the part that its root is about.
use Rattle.std.proofs.Common.{◌≡◌, ℕ, zero, suc, List, [], ◌∷◌, ◌++◌, length, Option, Some, None, refl, sym, ap, subst, ◌∙◌, reverse}
use Rattle.std.proofs.lemmas.List.{reverse-append}
use Rattle.std.specs.Prelude.{slice_get}
use Rattle.rule_trees.specs.declared.tree.Tree as T
use Rattle.rule_trees.specs.declared.tree.Tree.{out-Tree}
use Rattle.rule_trees.specs.RuleTree.{Tree, Trees, node, no_trees, tree}
use Rattle.rule_trees.specs.CodeTree.{tree_of, trees_in}
use Rattle.rule_trees.proofs.Parts.{tree_parts}
use Rattle.refused_parts.specs.CodeWalks.{walked, walked_in}

module _ {R Rule Part : Type 0} (f : R → Rule) (inside : Rule → Part → ℕ → Option Part) where
  at_end : (t : Tree Rule) (p : Part) → walked inside t p [] ≡ p
  at_end (node r ts) p = refl

  pub walked_none : (t : T.Tree R) (p : Part) (rest : List ℕ) → length rest ≡ 0 → walked inside (tree_of f t) p (reverse rest) ≡ p
  walked_none t p [] e = at_end (tree_of f t) p
  walked_none t p (i ∷ rest) e = absurd cc

  none_inside : (ts : Trees Rule) (p : Part) (i : ℕ) (way : List ℕ) → walked_in inside ts p None i way ≡ p
  none_inside no_trees p i way = refl
  none_inside (tree t ts) p i way = refl

  none_there : (ts : List (T.Tree R)) (p q : Part) (i : ℕ) (way : List ℕ) → slice_get ts i ≡ None → walked_in inside (trees_in f ts) p (Some q) i way ≡ p
  none_there [] p q i way e = refl
  none_there (t ∷ ts) p q zero way e = absurd cc
  none_there (t ∷ ts) p q (suc i) way e = none_there ts p q i way e

  there : (ts : List (T.Tree R)) (u : T.Tree R) (p q : Part) (i : ℕ) (way : List ℕ) → slice_get ts i ≡ Some u → walked_in inside (trees_in f ts) p (Some q) i way ≡ walked inside (tree_of f u) q way
  there [] u p q i way e = absurd cc
  there (t ∷ ts) u p q zero way e = let same : t ≡ u = cc in ap (λ v. walked inside (tree_of f v) q way) same
  there (t ∷ ts) u p q (suc i) way e = there ts u p q i way e

  -- at the first position of a way
  at_first : (t : T.Tree R) (p : Part) (rest higher : List ℕ) (i : ℕ) → rest ≡ higher ++ i ∷ [] →
      walked inside (tree_of f t) p (reverse rest) ≡ walked_in inside (trees_in f (out-Tree R t).parts.items) p (inside (f (out-Tree R t).rule) p i) i (reverse higher)
  at_first t p rest higher i split =
      ap (λ way. walked inside (tree_of f t) p way) (ap reverse split ∙ reverse-append higher (i ∷ []))
      ∙ ap (λ u. walked inside u p (i ∷ reverse higher)) (tree_parts f t)

  -- it goes no further
  pub walked_stays : (t : T.Tree R) (p : Part) (rest higher : List ℕ) (i : ℕ) → rest ≡ higher ++ i ∷ [] → None ≡ inside (f (out-Tree R t).rule) p i → walked inside (tree_of f t) p (reverse rest) ≡ p
  walked_stays t p rest higher i split e =
      at_first t p rest higher i split
      ∙ ap (λ o. walked_in inside (trees_in f (out-Tree R t).parts.items) p o i (reverse higher)) (sym e)
      ∙ none_inside (trees_in f (out-Tree R t).parts.items) p i (reverse higher)

  pub walked_out : (t : T.Tree R) (p q : Part) (rest higher : List ℕ) (i : ℕ) (ts : List (T.Tree R)) → rest ≡ higher ++ i ∷ [] → Some q ≡ inside (f (out-Tree R t).rule) p i → ts ≡ (out-Tree R t).parts.items → slice_get ts i ≡ None →
      walked inside (tree_of f t) p (reverse rest) ≡ p
  walked_out t p q rest higher i ts split e items none =
      at_first t p rest higher i split
      ∙ ap (λ o. walked_in inside (trees_in f (out-Tree R t).parts.items) p o i (reverse higher)) (sym e)
      ∙ none_there (out-Tree R t).parts.items p q i (reverse higher) (subst (λ us. slice_get us i ≡ None) items none)

  -- it goes on to a part
  pub walked_on : (t : T.Tree R) (p q : Part) (rest higher : List ℕ) (i : ℕ) (ts : List (T.Tree R)) (u : T.Tree R) → rest ≡ higher ++ i ∷ [] → Some q ≡ inside (f (out-Tree R t).rule) p i → ts ≡ (out-Tree R t).parts.items → slice_get ts i ≡ Some u →
      walked inside (tree_of f t) p (reverse rest) ≡ walked inside (tree_of f u) q (reverse higher)
  walked_on t p q rest higher i ts u split e items some =
      at_first t p rest higher i split
      ∙ ap (λ o. walked_in inside (trees_in f (out-Tree R t).parts.items) p o i (reverse higher)) (sym e)
      ∙ there (out-Tree R t).parts.items u p q i (reverse higher) (subst (λ us. slice_get us i ≡ Some u) items some)
