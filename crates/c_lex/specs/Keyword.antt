-- The keywords, as they are written (C99 6.4.1, those of our subset).
use Rattle.std.specs.Prelude.{ℕ, List, [], ◌∷◌, Option, codes, find}
use Rattle.std.specs.Str.{bytes_eq}
use Rattle.c_lex.specs.declared.token.Keyword.{Keyword}
use Rattle.c_lex.specs.declared.token.Keyword.TheVariants.{Break, Case, Char, Const, Continue, Default, Do, Else, Enum, Extern, For, If, Inline, Int, Long, Return, Short, Signed, Sizeof, Static, Struct, Switch, Typedef, Unsigned, Void, While}

abbrev pub keyword_text : Keyword → List ℕ
keyword_text Break = codes "break"
keyword_text Case = codes "case"
keyword_text Char = codes "char"
keyword_text Const = codes "const"
keyword_text Continue = codes "continue"
keyword_text Default = codes "default"
keyword_text Do = codes "do"
keyword_text Else = codes "else"
keyword_text Enum = codes "enum"
keyword_text Extern = codes "extern"
keyword_text For = codes "for"
keyword_text If = codes "if"
keyword_text Inline = codes "inline"
keyword_text Int = codes "int"
keyword_text Long = codes "long"
keyword_text Return = codes "return"
keyword_text Short = codes "short"
keyword_text Signed = codes "signed"
keyword_text Sizeof = codes "sizeof"
keyword_text Static = codes "static"
keyword_text Struct = codes "struct"
keyword_text Switch = codes "switch"
keyword_text Typedef = codes "typedef"
keyword_text Unsigned = codes "unsigned"
keyword_text Void = codes "void"
keyword_text While = codes "while"

-- each of them
abbrev pub keywords : List Keyword
keywords = Break ∷ Case ∷ Char ∷ Const ∷ Continue ∷ Default ∷ Do ∷ Else ∷ Enum ∷ Extern ∷ For ∷ If ∷ Inline ∷ Int ∷ Long ∷ Return ∷ Short ∷ Signed ∷ Sizeof ∷ Static ∷ Struct ∷ Switch ∷ Typedef ∷ Unsigned ∷ Void ∷ While ∷ []

-- the keyword that the bytes are
unfoldable pub keyword_of : List ℕ → Option Keyword
keyword_of bytes = find (λ x. bytes_eq (keyword_text x) bytes) keywords
