-- Trees of atoms and lists (S-expressions), and their one spelling: an atom as it is, a list in parentheses with one space between its parts.
use Rattle.std.specs.Prelude.{ℕ, suc, ◌+◌, max, ◌==◌, nat_le, Bool, false, not, ◌&&◌, List, [], ◌∷◌, ◌++◌, IsTrue}
use Rattle.std.specs.List.{list_all}

mutual
  pub data Tree : Type 0 where
    Atom : List ℕ → Tree
    Node : Trees → Tree

  pub data Trees : Type 0 where
    no_trees : Trees
    more : Tree → Trees → Trees

-- ( and ), a space, and the end of a line
abbrev pub opening : ℕ
opening = 40

abbrev pub closing : ℕ
closing = 41

abbrev pub space : ℕ
space = 32

abbrev pub line_end : ℕ
line_end = 10

-- printable ASCII other than the space and parentheses
abbrev pub is_atom_byte : ℕ → Bool
is_atom_byte b = nat_le 33 b && nat_le b 126 && not (b == opening) && not (b == closing)

abbrev pub is_atom : List ℕ → Bool
is_atom [] = false
is_atom (b ∷ bs) = list_all is_atom_byte (b ∷ bs)

abbrev mutual
  -- each atom can be one
  pub IsTree : Tree → Type 0
  IsTree (Atom word) = IsTrue (is_atom word)
  IsTree (Node ts) = AreTrees ts

  pub AreTrees : Trees → Type 0
  AreTrees no_trees = Unit {0}
  AreTrees (more t ts) = IsTree t × AreTrees ts

abbrev mutual
  pub spelling : Tree → List ℕ
  spelling (Atom word) = word
  spelling (Node ts) = opening ∷ (spellings ts ++ closing ∷ [])

  pub spellings : Trees → List ℕ
  spellings no_trees = []
  spellings (more t no_trees) = spelling t
  spellings (more t (more u us)) = spelling t ++ space ∷ spellings (more u us)

-- the text of a file
abbrev pub file : Tree → List ℕ
file t = spelling t ++ line_end ∷ []

abbrev mutual
  -- how many lists are nested, one in the other
  pub depth : Tree → ℕ
  depth (Atom word) = 0
  depth (Node ts) = suc (depths ts)

  pub depths : Trees → ℕ
  depths no_trees = 0
  depths (more t ts) = max (depth t) (depths ts)

-- how deep the tree of a file nests at most
abbrev pub deepest : ℕ
deepest = 4096

abbrev mutual
  pub nodes : Tree → ℕ
  nodes (Atom word) = 1
  nodes (Node ts) = suc (all_nodes ts)

  pub all_nodes : Trees → ℕ
  all_nodes no_trees = 0
  all_nodes (more t ts) = nodes t + all_nodes ts
