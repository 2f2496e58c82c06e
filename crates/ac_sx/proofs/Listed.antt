-- The parts of the code's trees as lists.
use Rattle.std.proofs.Common.{◌≡◌, suc, ◌+◌, ◌<◌, ◌≤◌, List, [], ◌∷◌, ◌++◌, length, get_or, set, refl, ap, ◌∙◌, arith, ◌==◌, Bool, false, Some, None}
use Rattle.std.specs.Prelude.{Vec}
use Rattle.std.specs.declared.alloc.Global.{Global}
use Rattle.ac_sx.specs.declared.sx.Sx as S
use Rattle.ac_sx.specs.declared.sx.Sx.{Row_of-Sx, end_of-Sx, more_of-Sx, items-the_row-Sx, items_hidden-the_row-Sx-0}
use Rattle.ac_sx.specs.Tree.{Tree, Trees, Node, no_trees, more, nodes, all_nodes}
use Rattle.ac_sx.specs.CodeSx.{tree_of, trees_of, trees_in, pushed, one_of, first_of}

row_trees : {m : _} (k : Row_of-Sx m) → trees_of k ≡ trees_in (items-the_row-Sx m k)
row_trees end_of-Sx = refl
row_trees (more_of-Sx t ts) = ap (λ us. more (tree_of t) us) (row_trees ts)

row_parts : {m : _} (k : Row_of-Sx m) (xs : List S.Sx) → items-the_row-Sx m k ≡ xs → Node (trees_of k) ≡ Node (trees_in xs)
row_parts k xs e = ap (λ ts. Node ts) (row_trees k ∙ ap trees_in e)

-- the row in a tree
abbrev row_of : S.Sx → (m : _) × Row_of-Sx m
row_of (S.List' shape ts) = (_, ts)
row_of (S.Atom w) = (_, end_of-Sx)

pub list_tree : (v : Vec S.Sx Global) → tree_of (S.List v) ≡ Node (trees_in v.items)
list_tree v =
    let row = row_of (S.List v) in
    let same = items_hidden-the_row-Sx-0 v in
    row_parts row.1 v.items same

pub trees_in-push : (xs : List S.Sx) (t : S.Sx) → trees_in (xs ++ t ∷ []) ≡ pushed (trees_in xs) (tree_of t)
trees_in-push [] t = refl
trees_in-push (x ∷ xs) t = ap (λ us. more (tree_of x) us) (trees_in-push xs t)

pub all_nodes-push : (xs : List S.Sx) (t : S.Sx) → all_nodes (trees_in (xs ++ t ∷ [])) ≡ all_nodes (trees_in xs) + nodes (tree_of t)
all_nodes-push [] t = omega arith
all_nodes-push (x ∷ xs) t = let h = all_nodes-push xs t in omega (arith, h)

pub list_nodes : (v : Vec S.Sx Global) (t : S.Sx) → t ≡ S.List v → nodes (tree_of t) ≡ suc (all_nodes (trees_in v.items))
list_nodes v t e = ap (λ u. nodes (tree_of u)) e ∙ ap nodes (list_tree v)

-- another tree in the place of the first
pub all_nodes-set : (xs : List S.Sx) (first other : S.Sx) → 0 < length xs → first ≡ get_or xs 0 first → all_nodes (trees_in (set xs 0 other)) + nodes (tree_of first) ≡ all_nodes (trees_in xs) + nodes (tree_of other)
all_nodes-set [] first other lt e = absurd (omega arith)
all_nodes-set (x ∷ xs) first other lt e = let same = ap (λ t. nodes (tree_of t)) e in omega (arith, same)

pub first_within : (xs : List S.Sx) (first : S.Sx) → 0 < length xs → first ≡ get_or xs 0 first → nodes (tree_of first) ≤ all_nodes (trees_in xs)
first_within [] first lt e = absurd (omega arith)
first_within (x ∷ xs) first lt e = let same = ap (λ t. nodes (tree_of t)) e in omega (arith, same)

-- more than one
pub one_of-more : (ts : Trees) (t : Tree) (xs : List S.Sx) (b : Bool) → Some (t, trees_in xs) ≡ first_of ts → b ≡ (length xs == 0) → b ≡ false → None ≡ one_of ts
one_of-more no_trees t xs b e f g = absurd cc
one_of-more (more u no_trees) t [] b e f g = absurd cc
one_of-more (more u no_trees) t (x ∷ xs) b e f g = absurd (let h : (t, more (tree_of x) (trees_in xs)) ≡ (u, no_trees) = cc in let k : more (tree_of x) (trees_in xs) ≡ no_trees = ap (λ (p : Tree × Trees). p.1) h in cc)
one_of-more (more u (more v vs)) t xs b e f g = refl
