-- Which part of a text spells which tree.
use Rattle.std.specs.Prelude.{◌≡◌, ℕ, ◌+◌, ◌≤◌, List, [], ◌∷◌, length}
use Rattle.std.specs.List.{slice_range}
use Rattle.ac_sx.specs.declared.spans.SxPart.{SxPart}
use Rattle.ac_sx.specs.Tree.{Tree, Trees, no_trees, more, IsTree, spelling, depth, deepest}

-- the tree is spelt there, from this offset on
pub record IsAt (text : List ℕ) (at : ℕ) (part : SxPart) (t : Tree) : Type 0 where
  pub start : part.start ≡ at
  pub end : part.end ≡ at + length (spelling t)
  pub within : part.end ≤ length text
  pub spelt : slice_range text part.start part.end ≡ spelling t
  pub atoms : IsTree t
  pub depth : depth t ≤ deepest

-- the trees are spelt there, one byte behind the other
abbrev pub AreAt : List ℕ → ℕ → List SxPart → Trees → Type 0
AreAt text start [] no_trees = Unit {0}
AreAt text start [] (more t ts) = ⊥
AreAt text start (p ∷ ps) no_trees = ⊥
AreAt text start (p ∷ ps) (more t ts) = IsAt text start p t × AreAt text (start + length (spelling t) + 1) ps ts
