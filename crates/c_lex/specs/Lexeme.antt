-- Tokens as plain data, and what contracts see of the lexer's own types.
use Rattle.std.specs.Prelude.{ℕ, Bool, List, map, string_bytes}
use Rattle.c_lex.specs.declared.token.Token.{Token}
use Rattle.c_lex.specs.declared.token.Keyword.{Keyword}
use Rattle.c_lex.specs.declared.token.Punct.{Punct}
use Rattle.c_lex.specs.declared.token.TokenKind.{TokenKind}
use Rattle.c_lex.specs.declared.token.TokenKind.TheVariants as code

-- what a token is
pub data Kind : Type 0 where
  name : List ℕ → Kind
  keyword : Keyword → Kind
  punct : Punct → Kind
  character : ℕ → Kind
  number : ℕ → Bool → Bool → ℕ → Kind

-- a token that takes the bytes of the text from one offset up to another
pub record Lexeme : Type 0 where
  pub kind : Kind
  pub from : ℕ
  pub to : ℕ

abbrev pub kind_of : TokenKind → Kind
kind_of (code.Name s) = name (string_bytes s)
kind_of (code.Keyword k) = keyword k
kind_of (code.Punct p) = punct p
kind_of (code.Character c) = character c
kind_of (code.Number value decimal unsigned longs) = number value decimal unsigned longs

abbrev pub lexeme_of : Token → Lexeme
lexeme_of t = record { kind = kind_of t.kind; from = t.start; to = t.end }

abbrev pub lexemes_of : List Token → List Lexeme
lexemes_of ts = map lexeme_of ts
