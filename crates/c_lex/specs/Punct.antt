-- The punctuators, as they are written (C99 6.4.6, those of our subset).
use Rattle.std.specs.Prelude.{ℕ, List, [], ◌∷◌, Option, codes, find, take}
use Rattle.std.specs.Option.{option_or}
use Rattle.std.specs.Str.{bytes_eq}
use Rattle.c_lex.specs.declared.token.Punct.{Punct}
use Rattle.c_lex.specs.declared.token.Punct.TheVariants.{LeftBrace, RightBrace, LeftParenthesis, RightParenthesis, LeftBracket, RightBracket, Semicolon, Comma, Colon, Question, Dot, Arrow, PlusPlus, MinusMinus, Ampersand, Star, Plus, Minus, Tilde, Exclamation, Slash, Percent, LessLess, GreaterGreater, Less, Greater, LessEqual, GreaterEqual, EqualEqual, ExclamationEqual, Caret, Bar, AmpersandAmpersand, BarBar, Equal, StarEqual, SlashEqual, PercentEqual, PlusEqual, MinusEqual, LessLessEqual, GreaterGreaterEqual, AmpersandEqual, CaretEqual, BarEqual}

abbrev pub punct_text : Punct → List ℕ
punct_text LeftBrace = codes "{"
punct_text RightBrace = codes "}"
punct_text LeftParenthesis = codes "("
punct_text RightParenthesis = codes ")"
punct_text LeftBracket = codes "["
punct_text RightBracket = codes "]"
punct_text Semicolon = codes ";"
punct_text Comma = codes ","
punct_text Colon = codes ":"
punct_text Question = codes "?"
punct_text Dot = codes "."
punct_text Arrow = codes "->"
punct_text PlusPlus = codes "++"
punct_text MinusMinus = codes "--"
punct_text Ampersand = codes "&"
punct_text Star = codes "*"
punct_text Plus = codes "+"
punct_text Minus = codes "-"
punct_text Tilde = codes "~"
punct_text Exclamation = codes "!"
punct_text Slash = codes "/"
punct_text Percent = codes "%"
punct_text LessLess = codes "<<"
punct_text GreaterGreater = codes ">>"
punct_text Less = codes "<"
punct_text Greater = codes ">"
punct_text LessEqual = codes "<="
punct_text GreaterEqual = codes ">="
punct_text EqualEqual = codes "=="
punct_text ExclamationEqual = codes "!="
punct_text Caret = codes "^"
punct_text Bar = codes "|"
punct_text AmpersandAmpersand = codes "&&"
punct_text BarBar = codes "||"
punct_text Equal = codes "="
punct_text StarEqual = codes "*="
punct_text SlashEqual = codes "/="
punct_text PercentEqual = codes "%="
punct_text PlusEqual = codes "+="
punct_text MinusEqual = codes "-="
punct_text LessLessEqual = codes "<<="
punct_text GreaterGreaterEqual = codes ">>="
punct_text AmpersandEqual = codes "&="
punct_text CaretEqual = codes "^="
punct_text BarEqual = codes "|="

-- each of them
abbrev pub puncts : List Punct
puncts = LeftBrace ∷ RightBrace ∷ LeftParenthesis ∷ RightParenthesis ∷ LeftBracket ∷ RightBracket ∷ Semicolon ∷ Comma ∷ Colon ∷ Question ∷ Dot ∷ Arrow ∷ PlusPlus ∷ MinusMinus ∷ Ampersand ∷ Star ∷ Plus ∷ Minus ∷ Tilde ∷ Exclamation ∷ Slash ∷ Percent ∷ LessLess ∷ GreaterGreater ∷ Less ∷ Greater ∷ LessEqual ∷ GreaterEqual ∷ EqualEqual ∷ ExclamationEqual ∷ Caret ∷ Bar ∷ AmpersandAmpersand ∷ BarBar ∷ Equal ∷ StarEqual ∷ SlashEqual ∷ PercentEqual ∷ PlusEqual ∷ MinusEqual ∷ LessLessEqual ∷ GreaterGreaterEqual ∷ AmpersandEqual ∷ CaretEqual ∷ BarEqual ∷ []

-- the punctuator that the bytes are
unfoldable pub punct_of : List ℕ → Option Punct
punct_of bytes = find (λ x. bytes_eq (punct_text x) bytes) puncts

-- The punctuator at the front of a text: the longest that fits. None is longer than three bytes.
unfoldable pub punct_at : List ℕ → Option Punct
punct_at text = option_or (punct_of (take 3 text)) (option_or (punct_of (take 2 text)) (punct_of (take 1 text)))
