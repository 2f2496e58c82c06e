-- Tables of trees, in which a list names its parts by their numbers: a tree's number is its place in the table.
use Rattle.std.specs.Prelude.{◌≡◌, ℕ, ◌≤◌, suc, Bool, true, ◌&&◌, nat_lt, List, [], ◌∷◌, ◌++◌, get_or, slice_get, Some}
use Rattle.std.specs.List.{list_all}
use Rattle.ac_sx.specs.Tree.{Tree, Trees, Atom, Node, no_trees, more, depth, deepest}

pub data Entry : Type 0 where
  Word : List ℕ → Entry
  Parts : List ℕ → Entry

-- the trees at these numbers
abbrev pub trees_at : List Tree → List ℕ → Trees
trees_at ts [] = no_trees
trees_at ts (i ∷ is) = more (get_or ts i (Node no_trees)) (trees_at ts is)

-- behind the trees of the entries before it
abbrev pub tree_among : List Tree → Entry → Tree
tree_among ts (Word word) = Atom word
tree_among ts (Parts is) = Node (trees_at ts is)

abbrev pub trees_from : List Tree → List Entry → List Tree
trees_from ts [] = ts
trees_from ts (e ∷ es) = trees_from (ts ++ tree_among ts e ∷ []) es

-- the trees of a table, in their order
abbrev pub trees_of : List Entry → List Tree
trees_of es = trees_from [] es

abbrev pub are_below : ℕ → List ℕ → Bool
are_below n is = list_all (λ i. nat_lt i n) is

-- the parts have smaller numbers
abbrev pub is_below : ℕ → Entry → Bool
is_below n (Word word) = true
is_below n (Parts is) = are_below n is

abbrev pub are_in_order : ℕ → List Entry → Bool
are_in_order n [] = true
are_in_order n (e ∷ es) = is_below n e && are_in_order (suc n) es

-- the parts of each list have smaller numbers than the list, and no entry stands twice
pub record IsTable (es : List Entry) : Type 0 where
  pub in_order : are_in_order 0 es ≡ true
  pub once : (i j : ℕ) (e : Entry) → slice_get es i ≡ Some e → slice_get es j ≡ Some e → i ≡ j

-- each entry of the one has its number in the other
abbrev pub Keeps : List Entry → List Entry → Type 0
Keeps old new = (rest : List Entry) × (new ≡ old ++ rest)

-- no tree of the table nests deeper than that of a file may
abbrev pub AreLow : List Entry → Type 0
AreLow es = (i : ℕ) (t : Tree) → slice_get (trees_of es) i ≡ Some t → depth t ≤ deepest
