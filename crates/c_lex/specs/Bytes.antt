-- The classes of bytes that tokens are made of (C99 5.2.1, 6.4), and the bytes that have a part of their own.
use Rattle.std.specs.Prelude.{ℕ, Bool, ◌||◌, ◌==◌}
use Rattle.std.specs.Char.{is_ascii_digit, is_ascii_alphabetic}

abbrev pub tab : ℕ
tab = 9

abbrev pub line_feed : ℕ
line_feed = 10

abbrev pub vertical_tab : ℕ
vertical_tab = 11

abbrev pub form_feed : ℕ
form_feed = 12

abbrev pub carriage_return : ℕ
carriage_return = 13

abbrev pub space : ℕ
space = 32

-- `"`
abbrev pub double_quote : ℕ
double_quote = 34

-- `#`
abbrev pub hash : ℕ
hash = 35

-- `'`
abbrev pub quote : ℕ
quote = 39

-- `.`
abbrev pub dot : ℕ
dot = 46

-- `_`
abbrev pub underscore : ℕ
underscore = 95

-- a backslash
abbrev pub backslash : ℕ
backslash = 92

-- a space or a tab
abbrev pub is_blank : ℕ → Bool
is_blank b = b == space || b == tab

abbrev pub is_white : ℕ → Bool
is_white b = is_blank b || b == carriage_return || b == line_feed || b == vertical_tab || b == form_feed

-- what begins a name
abbrev pub is_letter : ℕ → Bool
is_letter b = is_ascii_alphabetic b || b == underscore

-- what goes on a name
abbrev pub is_word : ℕ → Bool
is_word b = is_letter b || is_ascii_digit b

-- what goes on a number: also where no number can have it, so that a number ends only where the next token may begin
abbrev pub is_numeral : ℕ → Bool
is_numeral b = is_word b || b == dot
