-- The tree of a file, built byte by byte. Of other texts it means nothing.
use Rattle.std.specs.Prelude.{ℕ, ◌==◌, List, [], ◌∷◌, ◌++◌, Option, Some, None, map, reverse, Vec, if◌then◌else◌}
use Rattle.std.specs.declared.alloc.Global.{Global}
use Rattle.ac_sx.specs.declared.sx.Sx as S
use Rattle.ac_sx.specs.declared.builder.SxBuilder.{SxBuilder}
use Rattle.ac_sx.specs.Tree.{Tree, Trees, Atom, Node, no_trees, more, opening, closing, is_atom_byte}
use Rattle.ac_sx.specs.CodeSx.{trees_in, pushed}
use Rattle.ac_sx.specs.Writing.{Writing}

-- the parts of the innermost list so far, and of those around it, the innermost first
pub record Building : Type 0 where
  pub parts : Trees
  pub around : List Trees

abbrev pub stack_of : List (Vec S.Sx Global) → List Trees
stack_of lists = reverse (map (λ (v : Vec S.Sx Global). trees_in v.items) lists)

abbrev pub building_of : SxBuilder → Building
building_of b = record { parts = trees_in b.parts.items; around = stack_of b.around.items }

abbrev pub nothing : Building
nothing = record { parts = no_trees; around = [] }

abbrev pub placed : Building → Tree → Building
placed b t = record { parts = pushed b.parts t; around = b.around }

abbrev pub entered : Building → Building
entered b = record { parts = no_trees; around = b.parts ∷ b.around }

abbrev pub left_to : Trees → List Trees → Building
left_to parts [] = record { parts = parts; around = [] }
left_to parts (ts ∷ outer) = record { parts = pushed ts (Node parts); around = outer }

abbrev pub left : Building → Building
left b = left_to b.parts b.around

abbrev pub put : Building → List ℕ → Building
put b word = placed b (Atom word)

abbrev pub building : Writing Building
building = record { entered = entered; put = put; left = left }

-- an atom, where there are bytes of one
abbrev pub flushed : Building → List ℕ → Building
flushed b [] = b
flushed b (c ∷ cs) = placed b (Atom (c ∷ cs))

abbrev pub acted : Building → ℕ → Building
acted b c = if c == opening then entered b else if c == closing then left b else b

abbrev pub next_building : Building → List ℕ → ℕ → Building
next_building b word c = if is_atom_byte c then b else acted (flushed b word) c

abbrev pub next_word : List ℕ → ℕ → List ℕ
next_word word c = if is_atom_byte c then word ++ c ∷ [] else []

abbrev pub last_of : Trees → Option Tree
last_of no_trees = None
last_of (more t no_trees) = Some t
last_of (more t (more u us)) = last_of (more u us)

-- with these bytes of an atom before what is left
abbrev pub built_from : Building → List ℕ → List ℕ → Option Tree
built_from b word [] = last_of b.parts
built_from b word (c ∷ cs) = built_from (next_building b word c) (next_word word c) cs

abbrev pub built : List ℕ → Option Tree
built text = built_from nothing [] text
