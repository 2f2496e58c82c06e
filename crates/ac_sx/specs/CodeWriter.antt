-- What is left to be written.
use Rattle.std.specs.Prelude.{ℕ, suc, ◌+◌, List, [], ◌∷◌, ◌++◌, map, reverse}
use Rattle.std.specs.Borrow.{Bor}
use Rattle.ac_sx.specs.declared.sx.Sx as S
use Rattle.ac_sx.specs.Tree.{Trees, no_trees, more, spelling, closing, space, all_nodes}
use Rattle.ac_sx.specs.CodeSx.{trees_in}

-- the parts behind one that is written
abbrev pub parts_behind : Trees → List ℕ
parts_behind no_trees = []
parts_behind (more t ts) = space ∷ (spelling t ++ parts_behind ts)

-- of these lists, the innermost first
abbrev pub lists_behind : List Trees → List ℕ
lists_behind [] = []
lists_behind (ts ∷ outer) = parts_behind ts ++ closing ∷ lists_behind outer

abbrev pub nodes_behind : List Trees → ℕ
nodes_behind [] = 0
nodes_behind (ts ∷ outer) = suc (all_nodes ts) + nodes_behind outer

abbrev pub left_of : List (Bor (List S.Sx)) → List Trees
left_of lists = reverse (map (λ (parts : Bor (List S.Sx)). trees_in parts.now) lists)
