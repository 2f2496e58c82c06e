-- Worked rows: places of one text, and how a line is shown.
use Rattle.std.specs.Prelude.{◌≡◌, ℕ, ◌+◌, List, [], ◌∷◌, length, map, codes}
use Rattle.std.specs.Prelude.{replicate}
use Rattle.text_places.specs.Place.{line_at, column_at}
use Rattle.text_places.specs.Shown.{marked_line}

abbrev pub example : List ℕ
example = codes "int f(void)\n{\n\treturn a + p;\n}\n"

-- the line and the column of an offset
abbrev pub place : ℕ → ℕ × ℕ
place at = (line_at example at, column_at example at)

-- the first byte, a line feed, the first byte behind one, a tab, the operand `a`, the end of the text, and past it
abbrev pub Places : Type 0
Places = map place (0 ∷ 11 ∷ 12 ∷ 14 ∷ 22 ∷ 31 ∷ 99 ∷ []) ≡ ((1, 1) ∷ (1, 12) ∷ (2, 1) ∷ (3, 1) ∷ (3, 9) ∷ (5, 1) ∷ (5, 1) ∷ [])

abbrev pub WithTab : Type 0
WithTab = marked_line example 22 ≡ codes "\treturn a + p;\n\t       ^\n"

-- two bytes past ASCII and a bell
abbrev pub NotPrintable : Type 0
NotPrintable = marked_line (97 ∷ 195 ∷ 164 ∷ 7 ∷ 98 ∷ []) 4 ≡ codes "a???b\n    ^\n"

-- of a long line the bytes around the mark: a hundred before it, sixty from it on, and the mark with two line feeds
abbrev pub Cut : Type 0
Cut = length (marked_line (replicate 300 97) 150) ≡ 100 + 60 + 100 + 3
