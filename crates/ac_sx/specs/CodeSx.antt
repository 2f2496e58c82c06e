-- What the code's trees stand for.
use Rattle.std.specs.Prelude.{ℕ, List, [], ◌∷◌, Option, Some, None, string_bytes}
use Rattle.ac_sx.specs.declared.sx.Sx as S
use Rattle.ac_sx.specs.declared.sx.Sx.{Row_of-Sx, end_of-Sx, more_of-Sx}
use Rattle.ac_sx.specs.Tree.{Tree, Trees, Atom, Node, no_trees, more}

abbrev mutual
  pub tree_of : S.Sx → Tree
  tree_of (S.Atom word) = Atom (string_bytes word)
  tree_of (S.List' shape ts) = Node (trees_of ts)

  pub trees_of : {m : _} → Row_of-Sx m → Trees
  trees_of end_of-Sx = no_trees
  trees_of (more_of-Sx t ts) = more (tree_of t) (trees_of ts)

abbrev pub trees_in : List S.Sx → Trees
trees_in [] = no_trees
trees_in (t ∷ ts) = more (tree_of t) (trees_in ts)

-- one tree more at the end
abbrev pub pushed : Trees → Tree → Trees
pushed no_trees t = more t no_trees
pushed (more u us) t = more u (pushed us t)

abbrev pub word_in : Tree → Option (List ℕ)
word_in (Atom word) = Some word
word_in (Node ts) = None

abbrev pub parts_in : Tree → Option Trees
parts_in (Atom word) = None
parts_in (Node ts) = Some ts

-- the word that a list begins with, and its other parts
abbrev pub headed_in : Tree → Option (List ℕ × Trees)
headed_in (Atom word) = None
headed_in (Node no_trees) = None
headed_in (Node (more (Atom head) ts)) = Some (head, ts)
headed_in (Node (more (Node us) ts)) = None

-- of so many trees
abbrev pub one_of : Trees → Option Tree
one_of no_trees = None
one_of (more t no_trees) = Some t
one_of (more t (more u us)) = None

abbrev pub two_of : Trees → Option (Tree × Tree)
two_of no_trees = None
two_of (more t no_trees) = None
two_of (more t (more u no_trees)) = Some (t, u)
two_of (more t (more u (more v vs))) = None

abbrev pub three_of : Trees → Option (Tree × Tree × Tree)
three_of no_trees = None
three_of (more t no_trees) = None
three_of (more t (more u no_trees)) = None
three_of (more t (more u (more v no_trees))) = Some (t, u, v)
three_of (more t (more u (more v (more w ws)))) = None

-- the first, and the others
abbrev pub first_of : Trees → Option (Tree × Trees)
first_of no_trees = None
first_of (more t ts) = Some (t, ts)
