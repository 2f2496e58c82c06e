-- The rules that take exceptions out, by name, and what they claim.
use Rattle.simpl_lang.specs.Command.{Simpl}

pub data Rule : Type 0 where
  Skip : Rule
  Set : Rule
  Pick : Rule
  Call : Rule
  Throw : Rule
  SeqPlain : Rule
  SeqTest : Rule
  Cond : Rule
  Guard : Rule
  WhilePlain : Rule
  WhileTest : Rule
  CatchPlain : Rule
  CatchTest : Rule
  CatchSkip : Rule

infixl 70 ◌to◌
-- the right side, in which nothing is thrown, stands for the left side
pub record Claim : Type 0 where
  pub left : Simpl
  pub right : Simpl

abbrev pub ◌to◌ : Simpl → Simpl → Claim
a to b = record { left = a; right = b }
