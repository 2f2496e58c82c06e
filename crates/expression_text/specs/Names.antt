-- Names as texts have them.
use Rattle.std.specs.Prelude.{ℕ, ◌==◌, Bool, false, ◌&&◌, ◌||◌, List, [], ◌∷◌, if◌then◌else◌, Ok, Err}
use Rattle.std.specs.Char.{is_ascii_alphabetic, is_ascii_digit}
use Rattle.std.specs.List.{list_all}
use Rattle.ac_sx.specs.Tree.{Tree, Atom, Node}
use Rattle.expression_text.specs.Reading.{Read, next}

-- a letter, `_` or `$`
abbrev pub begins_name : ℕ → Bool
begins_name b = is_ascii_alphabetic b || b == 95 || b == 36

abbrev pub goes_on_name : ℕ → Bool
goes_on_name b = begins_name b || is_ascii_digit b

-- a letter, `_` or `$`, and then letters, digits, `_` and `$`
abbrev pub is_name : List ℕ → Bool
is_name [] = false
is_name (b ∷ bs) = begins_name b && list_all goes_on_name bs

abbrev pub name_at : ℕ → Tree → Read (List ℕ)
name_at at (Atom word) = if is_name word then Ok (word, next at) else Err at
name_at at (Node ts) = Err at
