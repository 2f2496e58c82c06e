-- Texts, put together of parts.
use Rattle.std.specs.Prelude.{ℕ, List, [], ◌∷◌, ◌++◌, codes}

-- bytes
abbrev pub Text : Type 0
Text = List ℕ

-- each part after a separator
abbrev pub each_after : Text → List Text → Text
each_after separator [] = []
each_after separator (p ∷ ps) = separator ++ (p ++ each_after separator ps)

-- parts with a separator between them
abbrev pub parted : Text → List Text → Text
parted separator [] = []
parted separator (p ∷ ps) = p ++ each_after separator ps

-- a list in parentheses, its parts parted by a space
abbrev pub listed : List Text → Text
listed ps = codes "(" ++ (parted (codes " ") ps ++ codes ")")

-- where there are parts: a space, and then the parts, parted by commas
abbrev pub behind_space : List Text → Text
behind_space [] = []
behind_space (p ∷ ps) = codes " " ++ parted (codes ", ") (p ∷ ps)
