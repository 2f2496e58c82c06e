-- What stands at the front of a text: nothing, something between tokens, the longest token, or no token, and why.
use Rattle.std.specs.Prelude.{ℕ, ◌+◌, Bool, false, ◌||◌, ◌&&◌, ◌==◌, nat_le, if◌then◌else◌, List, length, drop, slice_index}
use Rattle.std.specs.Option.{option_map_or}
use Rattle.std.specs.List.{take_while}
use Rattle.std.specs.Char.{is_ascii_digit}
use Rattle.c_lex.specs.declared.fault.Unsupported.{Unsupported}
use Rattle.c_lex.specs.declared.fault.Unsupported.TheVariants.{StringQuote, Ellipsis, Hash}
use Rattle.c_lex.specs.Bytes.{line_feed, double_quote, hash, quote, dot, is_blank, is_white, is_letter, is_word, is_numeral}
use Rattle.c_lex.specs.Lexeme.{Kind, name, keyword, punct, character}
use Rattle.c_lex.specs.Keyword.{keyword_of}
use Rattle.c_lex.specs.Unsupported.{unsupported_of}
use Rattle.c_lex.specs.Punct.{punct_text, punct_at}
use Rattle.c_lex.specs.Number.{number_of}
use Rattle.c_lex.specs.Character.{character_of}
use Rattle.c_lex.specs.Gap.{star, slash, line_length, comment_length, is_line_mark}

-- why no token stands at a place
pub data Cause : Type 0 where
  bad_byte : Cause
  bad_number : Cause
  open_comment : Cause
  unsupported : Unsupported → Cause
  long_name : Cause

pub data Front : Type 0 where
  -- the end of the text
  ends : Front
  -- white space, a comment or a blank line, of so many bytes; whether nothing but spaces and tabs stands before on the line then
  gap : ℕ → Bool → Front
  -- a token of so many bytes
  holds : Kind → ℕ → Front
  lacks : Cause → Front

-- names have 63 bytes at most
abbrev pub longest_name : ℕ
longest_name = 63

-- a word: a keyword, a word that is refused, or a name
unfoldable pub word_front : List ℕ → Front
word_front word =
    option_map_or (λ k. holds (keyword k) (length word)) (keyword_of word)
    (option_map_or (λ u. lacks (unsupported u)) (unsupported_of word)
    (if nat_le (length word) longest_name then holds (name word) (length word) else lacks long_name))

unfoldable pub number_front : List ℕ → Front
number_front numeral = option_map_or (λ k. holds k (length numeral)) (number_of numeral) (lacks bad_number)

-- what follows an opening quote
unfoldable pub character_front : List ℕ → Front
character_front text = option_map_or (λ c. holds (character c.0) c.1) (character_of text) (lacks bad_byte)

-- what follows `/*`
unfoldable pub comment_front : List ℕ → Front
comment_front text = option_map_or (λ n. gap (2 + n) false) (comment_length text) (lacks open_comment)

-- a punctuator, or a mark that is refused
unfoldable pub mark_front : List ℕ → Front
mark_front text =
    if slice_index text 0 == hash then lacks (unsupported Hash)
    else if slice_index text 0 == double_quote then lacks (unsupported StringQuote)
    else if slice_index text 0 == dot && slice_index text 1 == dot && slice_index text 2 == dot then lacks (unsupported Ellipsis)
    else option_map_or (λ p. holds (punct p) (length (punct_text p))) (punct_at text) (lacks bad_byte)

-- The front of a text. On a fresh line nothing but spaces and tabs stands before it: there a line mark makes the line blank.
unfoldable pub front : Bool → List ℕ → Front
front fresh text =
    let b = slice_index text 0 in
    let next = slice_index text 1 in
    if length text == 0 then ends
    else if is_white b then gap 1 (b == line_feed || (is_blank b && fresh))
    else if b == slash && next == slash then gap (line_length text) false
    else if b == slash && next == star then comment_front (drop 2 text)
    else if is_letter b then word_front (take_while is_word text)
    else if is_ascii_digit b then number_front (take_while is_numeral text)
    else if b == quote then character_front (drop 1 text)
    else if b == hash && fresh && is_line_mark (drop 1 text) then gap (line_length text) false
    else mark_front text
