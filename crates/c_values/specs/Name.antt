-- Names, as lists of bytes (C99 6.4.2). Names are the same where their bytes are; the code compares texts.
use Rattle.std.specs.Prelude.{ℕ, Bool, true, not, ◌&&◌, List, [], ◌∷◌, if◌then◌else◌}
use Rattle.std.specs.List.{list_any}
use Rattle.std.specs.Str.{bytes_eq}

abbrev pub Name : Type 0
Name = List ℕ

abbrev pub same_name : Name → Name → Bool
same_name = bytes_eq

-- a table from names with one entry changed
abbrev pub with_name : {A : Type 0} → Name → A → (Name → A) → Name → A
with_name x v table y = if same_name x y then v else table y

abbrev pub is_among : Name → List Name → Bool
is_among x ys = list_any (same_name x) ys

abbrev pub are_distinct : List Name → Bool
are_distinct [] = true
are_distinct (x ∷ xs) = not (is_among x xs) && are_distinct xs
