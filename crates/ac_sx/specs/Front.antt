-- How files begin, and where a text leaves them.
use Rattle.std.specs.Prelude.{◌≡◌, ℕ, ◌+◌, ◌-◌, ◌<◌, ◌≤◌, ◌==◌, List, ◌++◌, length, take, count_by}
use Rattle.ac_sx.specs.Tree.{Tree, IsTree, file, opening, closing, deepest}

abbrev pub IsFile : List ℕ → Type 0
IsFile text = (t : Tree) × IsTree t × (text ≡ file t)

-- some file begins so
abbrev pub IsFront : List ℕ → Type 0
IsFront text = (t : Tree) × IsTree t × (rest : List ℕ) × (text ++ rest ≡ file t)

-- no file, and this is the first byte with which no file goes on, or the text's end
pub record BreaksOff (text : List ℕ) (at : ℕ) : Type 0 where
  pub within : at ≤ length text
  pub front : IsFront (take at text)
  pub no_further : at < length text → IsFront (take (at + 1) text) → ⊥
  pub no_file : IsFile text → ⊥

-- how many of the lists of a front are open behind it
abbrev pub nesting : List ℕ → ℕ
nesting front = count_by (λ b. b == opening) front - count_by (λ b. b == closing) front

abbrev pub IsShallow : List ℕ → Type 0
IsShallow front = (k : ℕ) → nesting (take k front) ≤ deepest

-- a file may go on with this byte, and it is the first to open a list too deep
pub record OpensTooDeep (text : List ℕ) (at : ℕ) : Type 0 where
  pub within : at < length text
  pub front : IsFront (take (at + 1) text)
  pub shallow : IsShallow (take at text)
  pub deep : deepest < nesting (take (at + 1) text)
