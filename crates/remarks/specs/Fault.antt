-- The first fault of a C text, with its place: the one that standard output tells.
use Rattle.std.specs.Prelude.{ℕ, List, ◌++◌, codes}
use Rattle.c_values.specs.Types.{Target}
use Rattle.c_lex.specs.Lexeme.{Lexeme}
use Rattle.c_lex.specs.Tokens.{Tokens}
use Rattle.c_lex.specs.Unsupported.{unsupported_text}
use Rattle.c_limits.specs.declared.limits.Limit as limits
use Rattle.c_parse.specs.Answer.{Passes}
use Rattle.c_lang.specs.Typed.{TypedUnit}
use Rattle.answers.specs.Refusal.{kind_text, limit_line, source_line}
use Rattle.answers.specs.declared.status.Status as ends
use Rattle.answers.specs.declared.status.Status.TheVariants.{Source, Limit}
use Rattle.text_answers.specs.TextAnswer.{IsTextAnswer, IsTextOf}
use Rattle.remarks.specs.declared.fault.Cause.{Cause}
use Rattle.remarks.specs.declared.fault.Cause.TheVariants as cause

-- the status and the line on standard output for a fault at an offset
abbrev pub status_of : Cause → ends.Status
status_of (cause.Limit limit) = Limit
status_of _ = Source

abbrev pub line_of : Cause → ℕ → List ℕ
line_of cause.BadByte at = source_line (codes "bad byte") at
line_of cause.BadNumber at = source_line (codes "bad number") at
line_of cause.OpenComment at = source_line (codes "open comment") at
line_of (cause.Unsupported word) at = source_line (codes "unsupported " ++ unsupported_text word) at
line_of cause.LongName at = source_line (codes "long name") at
line_of cause.Syntax at = source_line (codes "syntax") at
line_of (cause.Limit limit) at = limit_line limit
line_of (cause.Typing kind) at = source_line (kind_text kind) at

-- nothing is done with a typed text
abbrev pub Refused : TypedUnit → ends.Status → List ℕ → Type 0
Refused unit status lines = ⊥

-- the tree of the text passes the limit, first at this offset
pub record PassesAt (text : List ℕ) (limit : limits.Limit) (at : ℕ) : Type 0 where
  pub tokens : List Lexeme
  pub are_tokens : Tokens text tokens
  pub passes : Passes tokens limit at

-- where the line of a fault doesn't tell its offset
abbrev pub IsLimitPlace : List ℕ → Cause → ℕ → Type 0
IsLimitPlace text (cause.Limit limit) at = PassesAt text limit at
IsLimitPlace text _ at = Unit {0}

-- The text is refused on the target, with this line on standard output; and the offset is the one that the line tells, or that of the first node
-- past the limit.
pub record IsFault (target : Target) (text : List ℕ) (cause : Cause) (at : ℕ) : Type 0 where
  pub told : IsTextAnswer target Refused text (status_of cause) (line_of cause at)
  pub place : IsLimitPlace text cause at

-- the text is typed on the target
pub record IsTyped (target : Target) (text : List ℕ) : Type 0 where
  pub unit : TypedUnit
  pub is_text : IsTextOf target text unit
