-- What the parser's answers say of tokens.
use Rattle.std.specs.Prelude.{◌≡◌, ℕ, List, ◌⊎◌, Result, Some, MatchResult}
use Rattle.c_lex.specs.Lexeme.{Lexeme}
use Rattle.c_grammar.specs.Tree.{External}
use Rattle.c_grammar.specs.Spells.{Spells}
use Rattle.c_grammar.specs.Place.{IsPlace}
use Rattle.c_limits.specs.Limits.{first_limit}
use Rattle.c_limits.specs.declared.limits.Limit as limits
use Rattle.c_grammar.specs.declared.fault.ScriptFault.{ScriptFault}
use Rattle.c_grammar.specs.declared.fault.ScriptFault.TheVariants as script
use Rattle.c_parse.specs.declared.fault.ParseFault.{ParseFault}
use Rattle.c_parse.specs.declared.fault.ParseFault.TheVariants.{Syntax, Limit, Memory}

-- no tree spells the tokens
abbrev pub HasNoTree : List Lexeme → Type 0
HasNoTree ts = (exts : List External) → Spells exts ts → ⊥

-- a tree spells the tokens, and this is the first limit that it passes
pub record Passes (ts : List Lexeme) (limit : limits.Limit) (at : ℕ) : Type 0 where
  pub tree : List External
  pub spells : Spells tree ts
  pub first : first_limit tree ≡ Some (limit, at)

-- the cause of a fault; of want of memory there is none
abbrev pub IsFaultOf : List Lexeme → ParseFault → Type 0
IsFaultOf ts (Syntax at) = HasNoTree ts × IsPlace ts at
IsFaultOf ts (Limit limit at) = Passes ts limit at
IsFaultOf ts Memory = Unit {0}

abbrev pub IsSyntax : ParseFault → Type 0
IsSyntax (Syntax at) = Unit {0}
IsSyntax _ = ⊥

-- refused for the syntax, unless memory ran out
abbrev pub IsRefusedAsSyntax : {T : Type 0} → Result T ParseFault → Type 0
IsRefusedAsSyntax r = MatchResult r (λ _. ⊥) (λ e. IsSyntax e ⊎ (e ≡ Memory))

-- refused with this fault, unless memory ran out
abbrev pub IsRefused : {T : Type 0} → Result T ParseFault → ParseFault → Type 0
IsRefused r fault = MatchResult r (λ _. ⊥) (λ e. (e ≡ fault) ⊎ (e ≡ Memory))

-- the fault of a script as one of the parser
abbrev pub of_script : ScriptFault → ParseFault
of_script (script.Syntax at) = Syntax at
of_script (script.Memory e) = Memory
