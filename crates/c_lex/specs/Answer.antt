-- What the lexer's answers say of a text.
use Rattle.std.specs.Prelude.{◌≡◌, ℕ, List, ◌⊎◌, Result, Ok, Err, MatchResult}
use Rattle.c_lex.specs.declared.fault.LexFault.{LexFault}
use Rattle.c_lex.specs.declared.fault.LexFault.TheVariants.{BadByte, BadNumber, OpenComment, Unsupported, LongName, Memory}
use Rattle.c_lex.specs.declared.lexer.Piece.{Piece}
use Rattle.c_lex.specs.declared.lexer.Piece.TheVariants.{Gap, Token}
use Rattle.c_lex.specs.Lexeme.{kind_of}
use Rattle.c_lex.specs.Front.{Front, gap, holds, lacks, Cause, bad_byte, bad_number, open_comment, unsupported, long_name}
use Rattle.c_lex.specs.Tokens.{FaultAt}

-- this cause, at this offset; nothing of want of memory
abbrev pub Tells : LexFault → (Cause → ℕ → Type 0) → Type 0
Tells (BadByte at) P = P bad_byte at
Tells (BadNumber at) P = P bad_number at
Tells (OpenComment at) P = P open_comment at
Tells (Unsupported u at) P = P (unsupported u) at
Tells (LongName at) P = P long_name at
Tells Memory P = Unit {0}

-- the fault is the first of the text
abbrev pub IsFaultOf : List ℕ → LexFault → Type 0
IsFaultOf text e = Tells e (FaultAt text)

-- refused with this fault, unless memory ran out
abbrev pub IsRefused : {T : Type 0} → Result T LexFault → LexFault → Type 0
IsRefused r fault = MatchResult r (λ _. ⊥) (λ e. (e ≡ fault) ⊎ (e ≡ Memory))

abbrev pub front_of : Piece → Front
front_of (Gap n fresh) = gap n fresh
front_of (Token kind n) = holds (kind_of kind) n

-- the answer is what stands at this offset, unless memory ran out
abbrev pub Shows : ℕ → Front → Result Piece LexFault → Type 0
Shows at front (Ok piece) = front ≡ front_of piece
Shows at front (Err e) = Tells e (λ cause i. (i ≡ at) × (front ≡ lacks cause))
