-- What may stand between tokens beside white space (C99 6.4.9): comments, and the lines that tell a compiler where a text comes from.
use Rattle.std.specs.Prelude.{◌≡◌, ℕ, suc, ◌+◌, Bool, true, false, ◌||◌, ◌&&◌, ◌==◌, if◌then◌else◌, List, [], ◌∷◌, drop, slice_index, Option, Some, None, option_map}
use Rattle.std.specs.List.{prefix_len, position_or_len}
use Rattle.std.specs.Char.{is_ascii_digit}
use Rattle.c_lex.specs.Bytes.{line_feed, hash, is_blank, is_white}

-- `*` and `/`
abbrev pub star : ℕ
star = 42

abbrev pub slash : ℕ
slash = 47

-- how many bytes there are up to the end of the line
abbrev pub line_length : List ℕ → ℕ
line_length text = position_or_len (λ b. b == line_feed) text

-- Of a text inside a comment: how many bytes there are up to the first `*/`, and with it. Comments don't nest.
abbrev pub comment_length : List ℕ → Option ℕ
comment_length [] = None
comment_length (b ∷ bs) = if b == star && slice_index bs 0 == slash then Some 2 else option_map suc (comment_length bs)

-- what follows a `#` makes its line a line mark: spaces and tabs, and then a digit
abbrev pub is_line_mark : List ℕ → Bool
is_line_mark text = is_ascii_digit (slice_index (drop (prefix_len is_blank text) text) 0)

-- What may stand between tokens at the front of a text, and how many bytes it takes. On a fresh line nothing but spaces and
-- tabs stands before it: there a line mark makes the line blank. The last argument says whether the line is fresh after it.
pub data IsGap : Bool → List ℕ → ℕ → Bool → Type 0 where
  white : {fresh : Bool} {b : ℕ} {bs : List ℕ} → is_white b ≡ true → IsGap fresh (b ∷ bs) 1 (b == line_feed || (is_blank b && fresh))
  line_comment : {fresh : Bool} {bs : List ℕ} → IsGap fresh (slash ∷ slash ∷ bs) (line_length (slash ∷ slash ∷ bs)) false
  comment : {fresh : Bool} {bs : List ℕ} {n : ℕ} → comment_length bs ≡ Some n → IsGap fresh (slash ∷ star ∷ bs) (2 + n) false
  line_mark : {bs : List ℕ} → is_line_mark bs ≡ true → IsGap true (hash ∷ bs) (line_length (hash ∷ bs)) false
