-- A line as it is shown, with a mark under the column. A terminal gets printable bytes and tabs alone, and of a long line what stands around the mark.
use Rattle.std.specs.Prelude.{ℕ, ◌==◌, ◌||◌, ◌&&◌, nat_le, Bool, if◌then◌else◌, List, ◌++◌, take, map, codes}
use Rattle.text_places.specs.Place.{last, before, behind}

-- so many bytes are shown before the column, and from it on
abbrev pub most_before : ℕ
most_before = 100

abbrev pub most_behind : ℕ
most_behind = 60

abbrev pub is_tab : ℕ → Bool
is_tab b = b == 9

abbrev pub is_printable : ℕ → Bool
is_printable b = nat_le 32 b && nat_le b 126

-- what is shown of a byte
abbrev pub shown : ℕ → ℕ
shown b = if is_printable b || is_tab b then b else 63

-- what stands below it, before the mark
abbrev pub blank : ℕ → ℕ
blank b = if is_tab b then 9 else 32

-- the line's bytes before a column and from it on, and the mark below them
abbrev pub marked : List ℕ → List ℕ → List ℕ
marked front back =
    map shown front ++ (map shown back ++ (codes "\n" ++ (map blank front ++ codes "^\n")))

abbrev pub marked_line : List ℕ → ℕ → List ℕ
marked_line text at = marked (last most_before (before text at)) (take most_behind (behind text at))
