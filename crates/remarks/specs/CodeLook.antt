-- What the code knows of the faults of tokens and of a tree.
use Rattle.std.specs.Prelude.{ℕ, List}
use Rattle.c_values.specs.Types.{Target}
use Rattle.c_lex.specs.Lexeme.{Lexeme}
use Rattle.c_grammar.specs.Tree.{External}
use Rattle.c_grammar.specs.Place.{IsPlace}
use Rattle.c_parse.specs.Answer.{HasNoTree, Passes}
use Rattle.c_lang.specs.Typed.{TypedUnit}
use Rattle.typing_rules.specs.Unit as rules
use Rattle.typing_rules.specs.Unit.{IsFirstBad}
use Rattle.text_answers.specs.TextAnswer.{IsTree}
use Rattle.remarks.specs.declared.fault.Cause.{Cause}
use Rattle.remarks.specs.declared.fault.Cause.TheVariants.{Syntax, Limit, Typing}

abbrev pub IsTreeFault : Target → List External → Cause → ℕ → Type 0
IsTreeFault target tree (Typing kind) at = IsFirstBad target tree at kind
IsTreeFault target tree _ at = ⊥

pub record IsTypedTree (target : Target) (tree : List External) : Type 0 where
  pub unit : TypedUnit
  pub typed : rules.IsTyped target tree unit

pub record OfTree (ts : List Lexeme) (P : List External → Type 0) : Type 0 where
  pub tree : List External
  pub is_tree : IsTree ts tree
  pub of_tree : P tree

abbrev pub IsTokensFault : Target → List Lexeme → Cause → ℕ → Type 0
IsTokensFault target ts Syntax at = HasNoTree ts × IsPlace ts at
IsTokensFault target ts (Limit limit) at = Passes ts limit at
IsTokensFault target ts cause at = OfTree ts (λ tree. IsTreeFault target tree cause at)

abbrev pub AreTyped : Target → List Lexeme → Type 0
AreTyped target ts = OfTree ts (IsTypedTree target)
