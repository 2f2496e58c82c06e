-- Where a syntax fault is: at a token up to which no text begins, or at the end of a text that breaks off.
use Rattle.std.specs.Prelude.{◌≡◌, ℕ, List, [], ◌∷◌, ◌++◌}
use Rattle.c_lex.specs.Lexeme.{Lexeme}
use Rattle.c_grammar.specs.declared.fault.ScriptFault.{ScriptFault}
use Rattle.c_grammar.specs.declared.fault.ScriptFault.TheVariants.{Syntax, Memory}
use Rattle.c_grammar.specs.Tree.{External}
use Rattle.c_grammar.specs.Spells.{Spells}

-- no tree spells a text that begins with these tokens
abbrev pub Breaks : List Lexeme → Type 0
Breaks front = (rest : List Lexeme) (exts : List External) → Spells exts (front ++ rest) → ⊥

-- the end of the last token, or this offset where there is none
abbrev pub end_of : ℕ → List Lexeme → ℕ
end_of at [] = at
end_of at (t ∷ ts) = end_of t.to ts

pub data IsPlace (ts : List Lexeme) (at : ℕ) : Type 0 where
  at_token : (front back : List Lexeme) (t : Lexeme) → ts ≡ front ++ t ∷ back → at ≡ t.from → Breaks (front ++ t ∷ []) → IsPlace ts at
  at_end : at ≡ end_of 0 ts → IsPlace ts at

-- the fault is at such a place, unless memory ran out
abbrev pub IsPlaced : List Lexeme → ScriptFault → Type 0
IsPlaced ts (Syntax at) = IsPlace ts at
IsPlaced ts (Memory error) = Unit {0}
