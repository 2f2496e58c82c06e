-- The names of types as the parser keeps them: all that it has met, the oldest first, and how many of them are made.
use Rattle.std.specs.Prelude.{ℕ, List, reverse, take}
use Rattle.c_grammar.specs.Tree.{Name}

-- the names that are made, the newest first
abbrev pub made_of : List Name → ℕ → List Name
made_of all made = reverse (take made all)

-- the names that are types behind the external, the newest first
abbrev pub next_of : List Name → List Name
next_of all = reverse all
