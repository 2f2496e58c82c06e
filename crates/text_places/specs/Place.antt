-- The place of an offset in a text, by counting. Only a line feed ends a line. An offset past the end has the place behind the last byte.
use Rattle.std.specs.Prelude.{ℕ, ◌+◌, ◌-◌, ◌==◌, Bool, not, List, length, take, drop}
use Rattle.std.specs.List.{count_by, suffix_len, take_while}

abbrev pub is_feed : ℕ → Bool
is_feed b = b == 10

abbrev pub is_inner : ℕ → Bool
is_inner b = not (is_feed b)

-- the last bytes, so many at most
abbrev pub last : ℕ → List ℕ → List ℕ
last n bytes = drop (length bytes - n) bytes

-- how many bytes stand behind the last line feed
abbrev pub since_feed : List ℕ → ℕ
since_feed bytes = suffix_len is_inner bytes

-- the number of the line, from 1: one more than the line feeds before the offset
abbrev pub line_at : List ℕ → ℕ → ℕ
line_at text at = 1 + count_by is_feed (take at text)

-- the number of the byte in its line, from 1: one more than the bytes since the last line feed before the offset
abbrev pub column_at : List ℕ → ℕ → ℕ
column_at text at = 1 + since_feed (take at text)

-- the bytes of the line before the offset
abbrev pub before : List ℕ → ℕ → List ℕ
before text at = last (since_feed (take at text)) (take at text)

-- and those from the offset on
abbrev pub behind : List ℕ → ℕ → List ℕ
behind text at = take_while is_inner (drop at text)
