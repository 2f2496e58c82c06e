-- What is found of one tree of the tokens is found of every tree that spells them, since there is one.
use Rattle.std.proofs.Common.{◌≡◌, ℕ, List, Option, Some, ap, sym, subst, ◌∙◌}
use Rattle.std.specs.Prelude.{Result, Ok, Err, IfErr}
use Rattle.std.specs.Result.{IsErrAnd}
use Rattle.c_lex.specs.Lexeme.{Lexeme}
use Rattle.c_grammar.specs.Tree.{External}
use Rattle.c_grammar.specs.Spells.{Spells}
use Rattle.c_grammar.specs.Place.{IsPlaced}
use Rattle.c_grammar.specs.Faults.{IfSyntax}
use Rattle.c_grammar.specs.declared.fault.ScriptFault.{ScriptFault}
use Rattle.c_grammar.specs.declared.fault.ScriptFault.TheVariants as script
use Rattle.c_grammar.proofs.Texts.{one_tree}
use Rattle.c_parse.specs.Answer.{HasNoTree, IsFaultOf, of_script}
use Rattle.c_limits.specs.Limits.{Fault, first_limit}
use Rattle.c_limits.specs.declared.limits.Limit.{Limit}
use Rattle.c_parse.specs.declared.fault.ParseFault.{ParseFault}
use Rattle.c_parse.specs.declared.fault.ParseFault.TheVariants as faults

pub limit_of_each : (ts : List Lexeme) (tree other : List External) (found : Option Fault) → Spells tree ts → Spells other ts → found ≡ first_limit tree → found ≡ first_limit other
limit_of_each ts tree other found s t e = e ∙ ap first_limit (one_tree tree other ts s t)

pub only_tree : (ts : List Lexeme) (tree other built : List External) → Spells tree ts → Spells other ts → Some built ≡ Some tree → built ≡ other
only_tree ts tree other built s t e = let f = one_tree tree other ts s t in cc

-- a limit that is told is the first
pub is_first : (found first : Option Fault) (told wanted : Limit × ℕ) → found ≡ first → first ≡ Some wanted → found ≡ Some told → faults.Limit told.0 told.1 ≡ faults.Limit wanted.0 wanted.1
is_first found first told wanted e f g = let h : told ≡ wanted = cc in ap (λ (fault : Fault). faults.Limit fault.0 fault.1) h

-- why there is no script is why there is no tree
pub refused_is_told : (ts : List Lexeme) (fault : ScriptFault) → IfSyntax fault (HasNoTree ts) → IsPlaced ts fault → IsFaultOf ts (of_script fault)
refused_is_told ts (script.Syntax at) none placed = (none, placed)
refused_is_told ts (script.Memory e) none placed = tt

-- an error that is a fault has its cause
pub error_is_told : {T : Type 0} (r : Result T ParseFault) (ts : List Lexeme) (fault : ParseFault) → IsErrAnd r (λ e. e ≡ fault) → IsFaultOf ts fault → IfErr r (IsFaultOf ts)
error_is_told (Ok x) ts fault h told = tt
error_is_told (Err e) ts fault h told = subst (λ e. IsFaultOf ts e) (sym h) told
