-- Character constants (C99 6.4.4.4): one character or escape between quotes, with a value from 0 to 255.
use Rattle.std.specs.Prelude.{ℕ, ◌+◌, Bool, not, ◌||◌, ◌&&◌, ◌==◌, nat_lt, if◌then◌else◌, List, take, drop, slice_index, Option, Some, None, option_and_then}
use Rattle.std.specs.List.{prefix_len}
use Rattle.std.specs.Int.{is_in_range}
use Rattle.std.specs.Char.{is_digit}
use Rattle.std.specs.Str.Parse.{digits_value}
use Rattle.c_lex.specs.Bytes.{quote, backslash}

-- Below, an answer is the value and how many bytes the whole constant takes.

-- the closing quote, after so many bytes
abbrev pub closed : ℕ → ℕ → List ℕ → Option (ℕ × ℕ)
closed value n text = if slice_index text 0 == quote then Some (value, n + 1) else None

-- a printable ASCII character that stands for itself
abbrev pub is_plain : ℕ → Bool
is_plain b = is_in_range 32 126 b && not (b == quote) && not (b == backslash)

-- `\n \t \r \a \b \f \v \\ \' \" \?`
abbrev pub simple_escape : ℕ → Option ℕ
simple_escape b =
    if b == 110 then Some 10
    else if b == 116 then Some 9
    else if b == 114 then Some 13
    else if b == 97 then Some 7
    else if b == 98 then Some 8
    else if b == 102 then Some 12
    else if b == 118 then Some 11
    else if b == 92 || b == 39 || b == 34 || b == 63 then Some b
    else None

-- digits of the base, one at least and so many at most, after so many bytes
unfoldable pub numeric_escape : ℕ → ℕ → ℕ → List ℕ → Option (ℕ × ℕ)
numeric_escape base most before text =
    let n = prefix_len (λ b. is_digit b base) (take most text) in
    let value = digits_value base (take n text) in
    if n == 0 || nat_lt 255 value then None else closed value (before + n) (drop n text)

-- what follows the backslash: `x` (120) and hexadecimal digits, octal digits, or one letter or mark
unfoldable pub escape_of : List ℕ → Option (ℕ × ℕ)
escape_of text =
    if slice_index text 0 == 120 then numeric_escape 16 2 3 (drop 1 text)
    else if is_digit (slice_index text 0) 8 then numeric_escape 8 3 2 text
    else option_and_then (λ value. closed value 3 (drop 1 text)) (simple_escape (slice_index text 0))

-- what follows the opening quote
unfoldable pub character_of : List ℕ → Option (ℕ × ℕ)
character_of text =
    if slice_index text 0 == backslash then escape_of (drop 1 text)
    else if is_plain (slice_index text 0) then closed (slice_index text 0) 2 (drop 1 text)
    else None
