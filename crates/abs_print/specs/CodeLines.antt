-- Lines at a margin, as the code writes them.
use Rattle.std.specs.Prelude.{List, [], ◌∷◌, ◌++◌, codes}
use Rattle.monad_lang.specs.Program.{Mon, Bind, If, Loop}
use Rattle.abs_print.specs.Texts.{Text}

-- each line behind the margin
abbrev pub at_margin : Text → List Text → Text
at_margin margin [] = []
at_margin margin (l ∷ ls) = margin ++ (l ++ (codes "\n" ++ at_margin margin ls))

-- lines of which the margin of the first one, and the names before it, are written
abbrev pub going_on : Text → List Text → Text
going_on margin [] = []
going_on margin (l ∷ ls) = l ++ (codes "\n" ++ at_margin margin ls)

-- a program that is no sequence
abbrev pub IsStep : Mon → Type 0
IsStep (Bind m xs n) = ⊥
IsStep _ = Unit {0}

-- a program without programs inside
abbrev pub IsPlain : Mon → Type 0
IsPlain (Bind m xs n) = ⊥
IsPlain (If e m n) = ⊥
IsPlain (Loop starts guard test m) = ⊥
IsPlain _ = Unit {0}

abbrev pub first_line : List Text → Text
first_line [] = []
first_line (l ∷ ls) = l
