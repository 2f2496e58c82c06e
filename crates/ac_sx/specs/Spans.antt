-- Where the parts of a list stand in its text: each behind the one before it and a space, the first behind the parenthesis.
use Rattle.std.specs.Prelude.{ℕ, ◌+◌, List, [], ◌∷◌, length}
use Rattle.ac_sx.specs.declared.spans.SxPart.{SxPart}
use Rattle.ac_sx.specs.Tree.{Tree, Trees, Atom, Node, no_trees, more, spelling, nodes}

abbrev pub parts_from : ℕ → Trees → List SxPart
parts_from start no_trees = []
parts_from start (more t ts) = record { start = start; end = start + length (spelling t); nodes = nodes t } ∷ parts_from (start + length (spelling t) + 1) ts

-- in the file of a tree
abbrev pub parts_of : Tree → List SxPart
parts_of (Atom word) = []
parts_of (Node ts) = parts_from 1 ts
