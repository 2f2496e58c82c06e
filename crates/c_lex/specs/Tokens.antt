-- The tokens of a text, and its first fault, as relations on the whole text.
use Rattle.std.specs.Prelude.{◌≡◌, ℕ, ◌+◌, ◌<◌, ◌≤◌, Bool, true, false, List, [], ◌∷◌, length, drop}
use Rattle.c_lex.specs.Lexeme.{Kind, Lexeme}
use Rattle.c_lex.specs.Gap.{IsGap}
use Rattle.c_lex.specs.Spelling.{Stands}
use Rattle.c_lex.specs.Front.{lacks, Cause, front}

-- a place in a text: an offset, and whether nothing but spaces and tabs stands before it on its line
pub record Place : Type 0 where
  pub at : ℕ
  pub fresh : Bool

abbrev pub start : Place
start = record { at = 0; fresh = true }

abbrev pub past : Place → ℕ → Bool → Place
past p n fresh = record { at = p.at + n; fresh = fresh }

-- From one place of the text to another these tokens stand, each the longest, and between them only white space, comments and blank lines.
pub data Leads (text : List ℕ) : Place → List Lexeme → Place → Type 0 where
  here : {p : Place} → Leads text p [] p
  past_gap : {p q : Place} {ts : List Lexeme} {n : ℕ} {fresh : Bool} → IsGap p.fresh (drop p.at text) n fresh → Leads text (past p n fresh) ts q → Leads text p ts q
  past_token : {p q : Place} {ts : List Lexeme} {kind : Kind} {n : ℕ} → Stands kind n (drop p.at text) → Leads text (past p n false) ts q → Leads text p (record { kind = kind; from = p.at; to = p.at + n } ∷ ts) q

-- the tokens of the text, all of it
pub record Tokens (text : List ℕ) (ts : List Lexeme) : Type 0 where
  pub place : Place
  pub leads : Leads text start ts place
  pub whole : length text ≤ place.at

-- No token stands at this offset, for this cause. Before it only tokens stand, and what may stand between them.
pub record FaultAt (text : List ℕ) (cause : Cause) (at : ℕ) : Type 0 where
  pub before : List Lexeme
  pub place : Place
  pub leads : Leads text start before place
  pub here : place.at ≡ at
  pub fault : front place.fresh (drop place.at text) ≡ lacks cause

-- In order, from one offset up to another: each token takes a byte at least, and none begins before the one before it ends.
abbrev pub Ascends : ℕ → ℕ → List Lexeme → Type 0
Ascends at end [] = at ≤ end
Ascends at end (t ∷ ts) = (at ≤ t.from) × (t.from < t.to) × Ascends t.to end ts
