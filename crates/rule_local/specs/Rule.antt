-- The rules that lift locals into bound names, by name, and what they claim.
use Rattle.std.specs.Prelude.{Bool, true, false, List}
use Rattle.c_values.specs.Name.{Name}
use Rattle.expression_lang.specs.Signature.{Binder}
use Rattle.simpl_lang.specs.Command.{Simpl}
use Rattle.monad_lang.specs.Program.{Mon}

pub data Rule : Type 0 where
  Skip : Rule
  Set : Rule
  Dead : Rule
  Global : Rule
  Memory : Rule
  Pick : Rule
  Seq : Rule
  Cond : Rule
  Guard : Rule
  While : Rule
  Call : Rule
  Void : Rule
  Start : Rule

-- the function: its locals with their kinds, and the names of its parameters
pub record Context : Type 0 where
  pub locals : List Binder
  pub parameters : List Name

-- the right side does what the left side does, and gives what it leaves in the outputs; as the whole body of a function, or as
-- a part of one
pub record Claim : Type 0 where
  pub left : Simpl
  pub right : Mon
  pub outputs : List Name
  pub is_whole : Bool

infix 70 ◌to◌giving◌
abbrev pub ◌to◌giving◌ : Simpl → Mon → List Name → Claim
a to m giving vs = record { left = a; right = m; outputs = vs; is_whole = false }

abbrev pub whole : Simpl → Mon → List Name → Claim
whole a m vs = record { left = a; right = m; outputs = vs; is_whole = true }
