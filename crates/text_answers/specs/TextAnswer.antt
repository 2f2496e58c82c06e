-- What is answered to a C text: why it isn't typed, or what is answered to its typed unit. The order of work decides: first the tokens of the
-- text, then their tree and its limits, then the types.
use Rattle.std.specs.Prelude.{◌≡◌, ℕ, ◌<◌, ◌^◌, List, length, None, codes, ◌⊎◌}
use Rattle.c_values.specs.Types.{Target}
use Rattle.c_lex.specs.Lexeme.{Lexeme}
use Rattle.c_lex.specs.Front.{Cause}
use Rattle.c_lex.specs.Tokens.{Tokens, FaultAt}
use Rattle.c_grammar.specs.Tree.{External}
use Rattle.c_grammar.specs.Spells.{Spells}
use Rattle.c_grammar.specs.Place.{IsPlace}
use Rattle.c_limits.specs.Limits.{first_limit}
use Rattle.c_limits.specs.declared.limits.Limit as limits
use Rattle.c_parse.specs.Answer.{HasNoTree, Passes}
use Rattle.c_lang.specs.Typed.{TypedUnit}
use Rattle.typing_rules.specs.Unit.{IsTyped, IsFirstBad}
use Rattle.typing_rules.specs.declared.fault.TypeKind.{TypeKind}
use Rattle.answers.specs.Refusal.{cause_text, kind_text, source_line, limit_line}
use Rattle.answers.specs.declared.status.Status.{Status}
use Rattle.answers.specs.declared.status.Status.TheVariants.{Source, Limit}

-- this tree spells the tokens, and passes no limit
pub record IsTree (ts : List Lexeme) (tree : List External) : Type 0 where
  pub spells : Spells tree ts
  pub within : first_limit tree ≡ None

-- the text has these tokens, this tree within the limits, and is typed as this unit
pub record IsTextOf (target : Target) (text : List ℕ) (unit : TypedUnit) : Type 0 where
  pub tokens : List Lexeme
  pub are_tokens : Tokens text tokens
  pub tree : List External
  pub is_tree : IsTree tokens tree
  pub typed : IsTyped target tree unit

-- the unit of some text, which is no longer than what memory can hold
pub record IsRead (target : Target) (unit : TypedUnit) : Type 0 where
  pub text : List ℕ
  pub short : length text < 2 ^ 64
  pub is_text : IsTextOf target text unit

-- What is answered to a text: why it isn't typed on the target, or what is answered to its typed unit.
module _ (target : Target) (of_unit : TypedUnit → Status → List ℕ → Type 0) where
  -- the text is typed as a unit, and this is the answer to that
  pub record OfUnit (tree : List External) (status : Status) (lines : List ℕ) : Type 0 where
    pub unit : TypedUnit
    pub typed : IsTyped target tree unit
    pub answer : of_unit unit status lines

  -- the text isn't typed: this is its first bad node, and what is wrong with it
  pub record IsUntyped (tree : List External) (lines : List ℕ) : Type 0 where
    pub at : ℕ
    pub kind : TypeKind
    pub first_bad : IsFirstBad target tree at kind
    pub written : lines ≡ source_line (kind_text kind) at

  -- the answer to a tree
  abbrev pub IsTreeAnswer : List External → Status → List ℕ → Type 0
  IsTreeAnswer tree Source lines = IsUntyped tree lines
  IsTreeAnswer tree status lines = OfUnit tree status lines

  -- a tree spells the tokens and passes no limit, and this is the answer to it
  pub record OfTree (ts : List Lexeme) (status : Status) (lines : List ℕ) : Type 0 where
    pub tree : List External
    pub is_tree : IsTree ts tree
    pub answer : IsTreeAnswer tree status lines

  -- no tree spells the tokens: here no text goes on, or it breaks off
  pub record IsNoTree (ts : List Lexeme) (lines : List ℕ) : Type 0 where
    pub no_tree : HasNoTree ts
    pub at : ℕ
    pub place : IsPlace ts at
    pub written : lines ≡ source_line (codes "syntax") at

  -- the tokens' tree passes this limit first
  pub record IsPast (ts : List Lexeme) (lines : List ℕ) : Type 0 where
    pub limit : limits.Limit
    pub at : ℕ
    pub passes : Passes ts limit at
    pub written : lines ≡ limit_line limit

  -- the answer to the tokens of a text
  abbrev pub IsTokensAnswer : List Lexeme → Status → List ℕ → Type 0
  IsTokensAnswer ts Source lines = IsNoTree ts lines ⊎ OfTree ts Source lines
  IsTokensAnswer ts Limit lines = IsPast ts lines ⊎ OfTree ts Limit lines
  IsTokensAnswer ts status lines = OfTree ts status lines

  -- the text has these tokens, and this is the answer to them
  pub record OfTokens (text : List ℕ) (status : Status) (lines : List ℕ) : Type 0 where
    pub tokens : List Lexeme
    pub are_tokens : Tokens text tokens
    pub answer : IsTokensAnswer tokens status lines

  -- the text has no tokens: here none stands, first of all, for this cause
  pub record HasNoTokens (text lines : List ℕ) : Type 0 where
    pub cause : Cause
    pub at : ℕ
    pub fault : FaultAt text cause at
    pub written : lines ≡ source_line (cause_text cause) at

  -- the answer to a text
  abbrev pub IsTextAnswer : List ℕ → Status → List ℕ → Type 0
  IsTextAnswer text Source lines = HasNoTokens text lines ⊎ OfTokens text Source lines
  IsTextAnswer text status lines = OfTokens text status lines
