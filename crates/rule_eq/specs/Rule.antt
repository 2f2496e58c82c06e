-- The rules that take programs to programs that mean the same, by name, and what they claim. A point of a program has the facts
-- that are known there, of the right side, and the setting: the names in scope and the functions that may be called.
use Rattle.std.specs.Prelude.{ℕ, List}
use Rattle.ac_expr.specs.Fact.{Fact}
use Rattle.monad_lang.specs.Program.{Mon}
use Rattle.monad_lang.specs.Sorted.{Setting}

pub data Rule : Type 0 where
  Refl : Rule
  -- with the program between
  Trans : Mon → Rule
  Bind : Rule
  If : Rule
  Loop : Rule
  -- with the position of the value
  RetOne : ℕ → Rule
  BindRet : Rule
  Assoc : Rule
  IfConst : Rule
  GuardKnown : Rule
  Exp : Rule

pub record Point : Type 0 where
  pub facts : List Fact
  pub setting : Setting

-- at this point the right side does what the left side does
pub data Claim : Type 0 where
  does : Point → Mon → Mon → Claim
